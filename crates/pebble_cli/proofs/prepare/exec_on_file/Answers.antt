-- A text that is no code is refused, and where memory is wanted there is no answer.
use Rattle.std.proofs.Common.{◌≡◌, Err, rules, inr}
use Rattle.command_answers.specs.declared.answer.EarlyEnd.TheVariants.{NoMemory}
use Rattle.command_answers.specs.CodeInputs.{IsNoCode}
use Rattle.command_answers.specs.ExecAnswers.{Executes}
use Rattle.command_answers.specs.MadeAnswers.{Meets}
use Rattle.command_answers.proofs.EarlyEnds.{refused_answers, no_answer}
use Rattle.pebble_cli.proofs.prepare.exec_on_file.Goals as goal

pub returns-in_err-code-clause-answers : goal.returns-in_err-code-clause-answers
returns-in_err-code-clause-answers g c =
    let end = c.in_err-code.field-0.0 in
    let is : c.from_residual.result ≡ Err end = search rules in
    refused_answers c.from_residual.result c.readable_code.result end (Meets (IsNoCode c.args.text.now)) (Meets (Executes c.args.text.now (g.D.Desk.file c.args.desk.now))) is c.in_err-code.was
    c.readable_code.ensures.refused

pub returns-in_err-exec_answer-clause-answers : goal.returns-in_err-exec_answer-clause-answers
returns-in_err-exec_answer-clause-answers g c =
    let is : c.from_residual-in_err-exec_answer.result ≡ Err NoMemory = search rules in
    no_answer c.from_residual-in_err-exec_answer.result _ is

pub returns-clause-answers : goal.returns-clause-answers
returns-clause-answers g c =
    inr (c.in_ok-exec_answer.ensures c.args.text.now (g.D.Desk.file c.args.desk.now) c.in_ok-code.ensures.reads c.in_ok-values.ensures.bytes)
