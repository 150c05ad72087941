-- The game refuses too few slots, and else there is an improvement.
use Rattle.std.proofs.Common.{◌≡◌, Err, rules, inr}
use Rattle.command_answers.specs.declared.answer.EarlyEnd.TheVariants.{NoMemory}
use Rattle.command_answers.specs.MadeAnswers.{Meets}
use Rattle.command_answers.specs.Refusals.{IsTooSmall}
use Rattle.command_answers.proofs.EarlyEnds.{is_this_error, refused_answers, no_answer}
use Rattle.improve_answers.specs.Improved.{IsImproved}
use Rattle.improve_answers.proofs.improve.improve_answer.Goals as goal

pub returns-in_err-game-clause-answers : goal.returns-in_err-game-clause-answers
returns-in_err-game-clause-answers c = λ text kernel accepted.
    let end = c.in_err-game.field-0.0 in
    let is : c.from_residual.result ≡ Err end = search rules in
    refused_answers c.from_residual.result c.played_game.result end (Meets (IsTooSmall c.args.asked.slots text)) (Meets (IsImproved c.args.asked text)) is c.in_err-game.was
    (c.played_game.ensures.refused text kernel accepted)

pub returns-in_err-improved_answer-clause-answers : goal.returns-in_err-improved_answer-clause-answers
returns-in_err-improved_answer-clause-answers c = λ text kernel accepted.
    let is : c.from_residual-in_err-improved_answer.result ≡ Err NoMemory = is_this_error _ _ c.from_residual-in_err-improved_answer.ensures.1 in
    no_answer c.from_residual-in_err-improved_answer.result _ is

pub returns-clause-answers : goal.returns-clause-answers
returns-clause-answers c = λ text kernel accepted. inr ((rw c.in_ok-game.ensures.game at c.in_ok-improved_answer.ensures) text kernel accepted)
