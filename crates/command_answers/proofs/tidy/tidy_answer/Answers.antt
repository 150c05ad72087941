-- What the file holds says which answer it is.
use Rattle.std.proofs.Common.{inr, subst}
use Rattle.command_answers.proofs.PlayedFiles.{Holds, few_moves, played, refused, tidied}
use Rattle.command_answers.proofs.tidy.tidy_answer.Goals as goal

pub tidied-requires-clause-vertices : goal.tidied-requires-clause-vertices
tidied-requires-clause-vertices c =
    let game = c.args.game.now in
    let holds = subst (Holds game c.requires.weights c.requires.room c.args.file.now) c.in-Complete.is c.in_ok-moves.ensures.play in
    let is = played game c.requires.weights c.requires.room c.args.file.now c.in-Complete.moves c.in-Complete.cost c.deref.result.now c.deref.ensures.value holds c.requires.limit.0 c.requires.limit.1 in
    is.1.file.reads.0

pub tidied-requires-clause-few : goal.tidied-requires-clause-few
tidied-requires-clause-few c =
    let game = c.args.game.now in
    let holds = subst (Holds game c.requires.weights c.requires.room c.args.file.now) c.in-Complete.is c.in_ok-moves.ensures.play in
    let is = played game c.requires.weights c.requires.room c.args.file.now c.in-Complete.moves c.in-Complete.cost c.deref.result.now c.deref.ensures.value holds c.requires.limit.0 c.requires.limit.1 in
    few_moves game is.0 c.deref.result.now is.1.file

pub tidied-requires-clause-complete : goal.tidied-requires-clause-complete
tidied-requires-clause-complete c =
    let game = c.args.game.now in
    let holds = subst (Holds game c.requires.weights c.requires.room c.args.file.now) c.in-Complete.is c.in_ok-moves.ensures.play in
    let is = played game c.requires.weights c.requires.room c.args.file.now c.in-Complete.moves c.in-Complete.cost c.deref.result.now c.deref.ensures.value holds c.requires.limit.0 c.requires.limit.1 in
    is.1.complete

pub returns-in-Complete : goal.returns-in-Complete
returns-in-Complete c =
    let game = c.args.game.now in
    let answer = c.tidied.ensures in
    let holds = subst (Holds game c.requires.weights c.requires.room c.args.file.now) c.in-Complete.is c.in_ok-moves.ensures.play in
    tidied game c.requires.weights c.requires.room c.args.file.now c.tidied.result c.in-Complete.moves c.in-Complete.cost c.deref.result.now c.deref.ensures.value answer.status answer.text answer.none holds

pub returns-in-NoPlay : goal.returns-in-NoPlay
returns-in-NoPlay c = λ text kernel held accepted of_file.
    let game = c.args.game.now in
    inr (refused game c.requires.weights c.requires.room c.args.file.now c.in-NoPlay.answer
    (subst (Holds game c.requires.weights c.requires.room c.args.file.now) c.in-NoPlay.is c.in_ok-moves.ensures.play) text kernel held accepted of_file)
