-- What the file holds says which answer it is.
use Rattle.std.proofs.Common.{inr, subst}
use Rattle.command_answers.proofs.PlayedFiles.{Holds, judged, refused}
use Rattle.command_answers.proofs.judge.judge_answer.Goals as goal

pub returns-in-Complete : goal.returns-in-Complete
returns-in-Complete c =
    let game = c.args.game.now in
    let answer = c.complete.ensures in
    judged game c.requires.weights c.requires.room c.args.file.now c.complete.result c.in-Complete.moves c.in-Complete.cost answer.status answer.text answer.none
    (subst (Holds game c.requires.weights c.requires.room c.args.file.now) c.in-Complete.is c.in_ok-cost.ensures.play)

pub returns : goal.returns
returns c = λ text kernel held accepted of_file.
    let game = c.args.game.now in
    inr (refused game c.requires.weights c.requires.room c.args.file.now c.in-NoPlay.answer
    (subst (Holds game c.requires.weights c.requires.room c.args.file.now) c.in-NoPlay.is c.in_ok-cost.ensures.play) text kernel held accepted of_file)
