-- The game refuses too few slots, and else the file is answered.
use Rattle.std.proofs.Common.{◌≡◌, ◌⊎◌, Err, rules, inr}
use Rattle.command_answers.specs.MadeAnswers.{Meets}
use Rattle.command_answers.specs.Refusals.{IsTooSmall}
use Rattle.command_answers.proofs.EarlyEnds.{more_of, refused_answers}
use Rattle.pebble_cli.specs.Answers.{OwnAnswers}
use Rattle.pebble_cli.proofs.prepare.graph_on_file.Goals as goal

pub returns-in_err-game-clause-answers : goal.returns-in_err-game-clause-answers
returns-in_err-game-clause-answers g c = λ text kernel accepted.
    let end = c.in_err-game.field-0.0 in
    let is : c.from_residual.result ≡ Err end = search rules in
    refused_answers c.from_residual.result c.played_game.result end (Meets (IsTooSmall c.args.slots text)) (Meets (OwnAnswers c.args.command text (g.D.Desk.file c.args.desk.now))) is c.in_err-game.was
    (c.played_game.ensures.refused text kernel accepted)

pub returns-clause-answers : goal.returns-clause-answers
returns-clause-answers g c = λ text kernel accepted.
    let made = (rw c.in_ok-game.ensures.game at c.game_on_file.ensures.answers) text kernel accepted in
    more_of c.game_on_file.result (Meets (OwnAnswers c.args.command text (g.D.Desk.file c.args.desk.now)))
    (λ a. Meets (IsTooSmall c.args.slots text) a ⊎ Meets (OwnAnswers c.args.command text (g.D.Desk.file c.args.desk.now)) a) (λ a k. inr k) made
