-- What the file proves says which answer it is.
use Rattle.command_answers.specs.declared.check.Checked.TheVariants as checks
use Rattle.command_answers.proofs.TableFiles.{certified_file, proves_played, refused_file}
use Rattle.command_answers.proofs.check.check_answer.Goals as goal

pub returns-in-Accepted : goal.returns-in-Accepted
returns-in-Accepted c =
    let answer = c.accepted.ensures in
    let proves = proves_played c.args.game.now c.args.asked c.args.file.now c.in_ok-checked.checked (checks.Accepted c.in-Accepted.bound) c.requires.slots c.requires.weights c.in-Accepted.is c.in_ok-checked.ensures in
    certified_file c.accepted.result c.args.asked c.args.game.now.graph c.args.file.now c.in-Accepted.bound answer.status answer.text answer.none proves c.requires.room

pub returns-in-Refused : goal.returns-in-Refused
returns-in-Refused c =
    let answer = c.refused.ensures in
    let known = checks.Refused c.in-Refused.reason c.in-Refused.row in
    let proves = proves_played c.args.game.now c.args.asked c.args.file.now c.in_ok-checked.checked known c.requires.slots c.requires.weights c.in-Refused.is c.in_ok-checked.ensures in
    refused_file c.refused.result c.args.asked c.args.game.now.graph c.args.file.now c.in-Refused.reason c.in-Refused.row answer.status answer.text answer.none proves c.requires.room
