-- The game refuses too few slots, and else the file is answered.
use Rattle.std.proofs.Common.{◌≡◌, Err, rules, inr}
use Rattle.command_answers.specs.declared.answer.EarlyEnd.TheVariants.{NoMemory}
use Rattle.command_answers.specs.MadeAnswers.{Meets}
use Rattle.command_answers.specs.Refusals.{IsTooSmall}
use Rattle.command_answers.proofs.EarlyEnds.{is_this_error, no_answer, refused_answers}
use Rattle.improve_answers.specs.Confirms.{Confirms}
use Rattle.improve_cli.proofs.InputAnswers.{unrefused}
use Rattle.improve_cli.proofs.prepare.confirm_on_file.Goals as goal

pub returns-in_err-game-clause-answers : goal.returns-in_err-game-clause-answers
returns-in_err-game-clause-answers g c = λ text kernel accepted.
    let end = c.in_err-game.field-0.0 in
    let is : c.from_residual.result ≡ Err end = search rules in
    refused_answers c.from_residual.result c.played_game.result end (Meets (IsTooSmall c.args.asked.slots text)) (Meets (Confirms c.args.asked text (g.D.Desk.file c.args.desk.now))) is c.in_err-game.was
    (c.played_game.ensures.refused text kernel accepted)

pub returns-in_err-file-clause-answers : goal.returns-in_err-file-clause-answers
returns-in_err-file-clause-answers g c = λ text kernel accepted.
    let end = c.in_err-file.field-0.0 in
    let is : c.from_residual-in_err-file.result ≡ Err end = is_this_error _ _ c.from_residual-in_err-file.ensures.1 in
    unrefused c.from_residual-in_err-file.result c.file_bytes.result end _ is c.in_err-file.was c.file_bytes.ensures.not_refused

pub returns-in_err-confirm_answer-clause-answers : goal.returns-in_err-confirm_answer-clause-answers
returns-in_err-confirm_answer-clause-answers g c = λ text kernel accepted.
    let is : c.from_residual-in_err-confirm_answer.result ≡ Err NoMemory = is_this_error _ _ c.from_residual-in_err-confirm_answer.ensures.1 in
    no_answer c.from_residual-in_err-confirm_answer.result _ is

pub returns-clause-answers : goal.returns-clause-answers
returns-clause-answers g c = λ text kernel accepted.
    inr ((rw c.in_ok-game.ensures.game at c.in_ok-confirm_answer.ensures) text kernel (g.D.Desk.file c.args.desk.now) accepted c.in_ok-file.ensures.bytes)
