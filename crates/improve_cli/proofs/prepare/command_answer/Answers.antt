-- The answer to the kernel in the input is the answer to the input.
use Rattle.std.proofs.Common.{◌≡◌, ◌∙◌, Err, rules, sym, ap, subst}
use Rattle.desk_io.specs.Known.{Tells}
use Rattle.command_answers.specs.declared.answer.EarlyEnd.TheVariants.{ReadFault}
use Rattle.answer_desk.proofs.InputRests.{still_leaves, whole_within}
use Rattle.improve_cli.specs.Faults.{of_input}
use Rattle.std.specs.Prelude.{Some}
use Rattle.std.proofs.Common.{refl}
use Rattle.improve_cli.proofs.InputAnswers.{long_answers, told_answers}
use Rattle.improve_cli.proofs.FaultCauses.{file_fault}
use Rattle.improve_cli.proofs.prepare.command_answer.Goals as goal

pub returns-in_err-text-clause-answers : goal.returns-in_err-text-clause-answers
returns-in_err-text-clause-answers g c =
    let end = c.in_err-text.field-0.0 in
    let is : c.from_residual.result ≡ Err end = search rules in
    long_answers c.from_residual.result c.kernel_input.result end c.args.command (g.D.Desk.input c.args.desk.now) (g.D.Desk.file c.args.desk.now) is c.in_err-text.was
    c.kernel_input.ensures.refused

pub returns-in_err-text-clause-fault : goal.returns-in_err-text-clause-fault
returns-in_err-text-clause-fault g c fault =
    let end = c.in_err-text.field-0.0 in
    let is : c.from_residual.result ≡ Err end = search rules in
    let same : end ≡ ReadFault = cc in
    of_input c.args.command refl (c.kernel_input.ensures.fault (c.in_err-text.was ∙ ap Err same)) c.kernel_input.ensures.same_takes

pub returns-in_err-text-clause-early : goal.returns-in_err-text-clause-early
returns-in_err-text-clause-early g c fault =
    let end = c.in_err-text.field-0.0 in
    let is : c.from_residual.result ≡ Err end = search rules in
    let same : end ≡ ReadFault = cc in
    c.kernel_input.ensures.early (c.in_err-text.was ∙ ap Err same)

pub returns-clause-answers : goal.returns-clause-answers
returns-clause-answers g c =
    let told = subst (Tells (g.D.Desk.input c.args.desk.now)) (sym c.deref.ensures.value) c.in_ok-text.ensures.told in
    told_answers c.kernel_answer.result c.args.command (g.D.Desk.input c.args.desk.now) c.deref.result.now (g.D.Desk.file c.args.desk.now) (g.D.Desk.file c.kernel_input.new.desk) told
    c.kernel_input.ensures.same_file c.kernel_answer.ensures.answers

pub returns-clause-fault : goal.returns-clause-fault
returns-clause-fault g c fault =
    let told = subst (Tells (g.D.Desk.input c.args.desk.now)) (sym c.deref.ensures.value) c.in_ok-text.ensures.told in
    let met = c.kernel_answer.ensures.fault fault in
    file_fault c.args.command met.0 (g.D.Desk.input c.args.desk.now) c.deref.result.now (g.D.Desk.faults c.args.desk.now) (g.D.Desk.faults c.kernel_input.new.desk) (g.D.Desk.faults c.kernel_answer.new.desk) told
    c.kernel_input.ensures.same_takes (c.kernel_input.ensures.no_vain_take (λ e. let both = sym c.in_ok-text.was ∙ e in cc)).input c.kernel_answer.ensures.same_takes met.1 met.2 met.3

pub returns-clause-early : goal.returns-clause-early
returns-clause-early g c fault =
    let read = c.in_ok-text.ensures in
    whole_within (g.D.Desk.input c.args.desk.now) _ _ _ 65536 read.told read.short read.whole c.kernel_answer.ensures.same_input

pub returns-clause-rest_left : goal.returns-clause-rest_left
returns-clause-rest_left g c = still_leaves (g.D.Desk.input c.args.desk.now) _ _ c.kernel_answer.ensures.same_input c.kernel_input.ensures.rest_left
