-- The answer of each command.
use Rattle.std.proofs.Common.{◌≡◌, Err, rules, refl, sym, subst}
use Rattle.improve_answers.specs.declared.commands.ImproveCommand.TheVariants.{Improve, Confirm}
use Rattle.improve_cli.specs.Answers.{IsAdmitted}
use Rattle.improve_cli.proofs.InputAnswers.{faulty_answers, slotted_answers}
use Rattle.improve_cli.proofs.prepare.kernel_answer.Goals as goal

pub returns-in_err-accepted-clause-answers : goal.returns-in_err-accepted-clause-answers
returns-in_err-accepted-clause-answers g c =
    let end = c.in_err-accepted.field-0.0 in
    let is : c.from_residual.result ≡ Err end = search rules in
    faulty_answers c.from_residual.result c.accepted_kernel.result end c.args.command c.args.text.now (g.D.Desk.file c.args.desk.now) is c.in_err-accepted.was c.accepted_kernel.ensures.refused

pub returns-in-Improve-clause-answers : goal.returns-in-Improve-clause-answers
returns-in-Improve-clause-answers g c =
    slotted_answers c.improve_answer.result c.args.command (Improve c.in-Improve.asked) c.args.text.now (g.D.Desk.file c.args.desk.now) c.in-Improve.is
    (c.improve_answer.ensures.answers c.args.text.now c.in_ok-accepted.accepted.kernel c.in_ok-accepted.ensures.accepted)

pub returns-clause-answers : goal.returns-clause-answers
returns-clause-answers g c =
    slotted_answers c.confirm_on_file.result c.args.command (Confirm c.in-Confirm.asked) c.args.text.now (g.D.Desk.file c.args.desk.now) c.in-Confirm.is
    (c.confirm_on_file.ensures.answers c.args.text.now c.in_ok-accepted.accepted.kernel c.in_ok-accepted.ensures.accepted)

pub returns-clause-fault : goal.returns-clause-fault
returns-clause-fault g c = λ fault.
    let met = c.confirm_on_file.ensures.fault fault in
    let admitted : IsAdmitted (Confirm c.in-Confirm.asked) c.args.text.now =
    record { kernel = c.in_ok-accepted.accepted.kernel; graph = c.in_ok-accepted.accepted.graph; accepted = c.in_ok-accepted.ensures.accepted; room = met.0 } in
    (c.in-Confirm.asked, c.in-Confirm.is, subst (λ k. IsAdmitted k c.args.text.now) (sym c.in-Confirm.is) admitted, met.1)
