-- What the values of the file, and the run on them, say of the answer.
use Rattle.std.proofs.Common.{◌≡◌, Err, ℤ, List, length, sym, ap, ◌∙◌, subst, arith}
use Rattle.kernel_ast.specs.declared.tree.DeclKind.TheVariants.{Input}
use Rattle.kernel_ast.specs.Labels.{labels_of}
use Rattle.source_machine.specs.RunEnds as ends
use Rattle.source_machine.specs.RunEnds.{IsRun}
use Rattle.values_text.specs.Values.{Spells}
use Rattle.command_answers.proofs.Accepting.{faultless_from_graph}
use Rattle.command_answers.proofs.Running.{wrong_count, outputs_counted, wrong_values, right_values}
use Rattle.command_answers.proofs.ValuesFiles.{few_values, no_list}
use Rattle.command_answers.proofs.run.values_answer.Goals as goal

pub returns-in-Err-Shape : goal.returns-in-Err-Shape
returns-in-Err-Shape c =
    let none = c.in-Err-Shape.ensures.shape (ap Err c.in-Err-Shape.field-0-is) in
    let answer = c.values_fault.ensures in
    wrong_values c.values_fault.result c.args.accepted.now.kernel c.args.accepted.now.graph c.args.bytes.now answer.status answer.text answer.none
    (no_list (length (labels_of Input c.args.accepted.now.kernel.decls)) c.args.bytes.now none)

pub run-requires : goal.run-requires
run-requires c =
    let few = few_values c.args.bytes.now c.in-Ok.values.items c.in-Ok.ensures.spelled in
    omega (arith, few, c.requires.short, ap length c.deref.ensures.value)

pub valued-requires : goal.valued-requires
valued-requires c =
    let kernel = c.args.accepted.now.kernel in
    let counted = outputs_counted c.requires.accepted.0 kernel c.args.accepted.now.graph c.deref.result.now c.in-Ok-run.outputs.items c.requires.accepted.1 c.in-Ok-run.ensures.outputs in
    counted ∙ sym (ap length c.deref-in-Ok-run.ensures.value)

pub returns-in-Ok-run : goal.returns-in-Ok-run
returns-in-Ok-run c =
    let kernel = c.args.accepted.now.kernel in
    let answer = c.valued.ensures in
    let ran = subst (IsRun kernel c.deref.result.now) (sym c.deref-in-Ok-run.ensures.value) c.in-Ok-run.ensures.outputs in
    let spelled = subst (Spells c.args.bytes.now) (sym c.deref.ensures.value) c.in-Ok.ensures.spelled in
    right_values c.valued.result kernel c.args.accepted.now.graph c.args.bytes.now c.deref.result.now c.deref-in-Ok-run.result.now answer.status answer.text answer.none
    c.requires.short spelled ran

pub returns-in-Err-WrongCount : goal.returns-in-Err-WrongCount
returns-in-Err-WrongCount c =
    let kernel = c.args.accepted.now.kernel in
    let answer = c.values_fault-in-Err-WrongCount.ensures in
    let wrong = subst (ends.EndMeans kernel c.deref.result.now) c.in-Err-WrongCount.field-0-is c.in-Err-WrongCount.ensures.end in
    let only = subst (λ values. (others : List ℤ) → Spells c.args.bytes.now others → others ≡ values) (sym c.deref.ensures.value) c.in-Ok.ensures.only in
    wrong_values c.values_fault-in-Err-WrongCount.result kernel c.args.accepted.now.graph c.args.bytes.now answer.status answer.text answer.none
    (wrong_count kernel c.args.bytes.now c.deref.result.now c.in-Err-WrongCount.field-0-0 c.in-Err-WrongCount.field-0-1 only wrong)

pub unreachable-requires : goal.unreachable-requires
unreachable-requires c =
    let kernel = c.args.accepted.now.kernel in
    let fault = subst (ends.EndMeans kernel c.deref.result.now) c.in-Err-Shape-run.field-0-is c.in-Err-Shape-run.ensures.end in
    let both = sym (faultless_from_graph kernel c.args.accepted.now.graph c.requires.accepted.1.evaluated) ∙ fault in
    absurd (cc)
