-- What the values of the file, and the run on them, say of the answer.
use Rattle.std.proofs.Common.{Err, length, sym, ap, ◌∙◌, subst, arith}
use Rattle.scratch_machine.specs.Exec.{IsRunAnswer}
use Rattle.scratch_machine.specs.Machines.{empty_slot, empty_word}
use Rattle.values_text.specs.Values.{Spells}
use Rattle.command_answers.specs.ValuesFiles.{HoldsValues}
use Rattle.command_answers.proofs.CodeInputs.{few_parts}
use Rattle.command_answers.proofs.Executing.{outputs_counted, wrong_values, empty_read}
use Rattle.command_answers.proofs.ValuesFiles.{few_values, no_list}
use Rattle.command_answers.proofs.exec.values_answer.Goals as goal

pub returns-in-Err-Shape : goal.returns-in-Err-Shape
returns-in-Err-Shape c =
    let none = c.in-Err-Shape.ensures.shape (ap Err c.in-Err-Shape.field-0-is) in
    let answer = c.values_fault.ensures in
    wrong_values c.values_fault.result c.args.code.now c.args.bytes.now answer.status answer.text answer.none (no_list (length c.args.code.now.inputs) c.args.bytes.now none)

pub exec-requires-clause-few : goal.exec-requires-clause-few
exec-requires-clause-few c =
    let text = c.requires.input.0 in
    let input = c.requires.input.1 in
    let short = input.short in
    let few = few_parts text c.args.code.now input.reads in
    omega (arith, short, few)

pub exec-requires-clause-few_values : goal.exec-requires-clause-few_values
exec-requires-clause-few_values c =
    let few = few_values c.args.bytes.now c.in-Ok.values.items c.in-Ok.ensures.spelled in
    omega (arith, few, c.requires.short, ap length c.deref.ensures.value)

pub executed-requires : goal.executed-requires
executed-requires c =
    let end = c.in-Ok-exec.ensures.1 in
    outputs_counted c.args.code.now c.deref.result.now end.ending end.ends ∙ sym (ap length end.outputs)

pub returns-in-Err-EmptySlot : goal.returns-in-Err-EmptySlot
returns-in-Err-EmptySlot c =
    let told = subst (λ e. IsRunAnswer (Err e) c.args.code.now c.deref.result.now) c.in-Err-EmptySlot.field-0-is c.in-Err-EmptySlot.ensures in
    let given : HoldsValues (length c.args.code.now.inputs) c.args.bytes.now c.deref.result.now = record {
      short = c.requires.short;
      spelled = subst (Spells c.args.bytes.now) (sym c.deref.ensures.value) c.in-Ok.ensures.spelled;
      counted = told.0;
    } in
    let answer = c.exec_fault.ensures in
    empty_read c.exec_fault.result c.args.code.now c.args.bytes.now c.deref.result.now (empty_slot c.in-Err-EmptySlot.at) answer.status answer.text answer.none given told.1

pub returns-in-Err-EmptyWord : goal.returns-in-Err-EmptyWord
returns-in-Err-EmptyWord c =
    let told = subst (λ e. IsRunAnswer (Err e) c.args.code.now c.deref.result.now) c.in-Err-EmptyWord.field-0-is c.in-Err-EmptyWord.ensures in
    let given : HoldsValues (length c.args.code.now.inputs) c.args.bytes.now c.deref.result.now = record {
      short = c.requires.short;
      spelled = subst (Spells c.args.bytes.now) (sym c.deref.ensures.value) c.in-Ok.ensures.spelled;
      counted = told.0;
    } in
    let answer = c.exec_fault-in-Err-EmptyWord.ensures in
    empty_read c.exec_fault-in-Err-EmptyWord.result c.args.code.now c.args.bytes.now c.deref.result.now (empty_word c.in-Err-EmptyWord.at) answer.status answer.text answer.none given told.1
