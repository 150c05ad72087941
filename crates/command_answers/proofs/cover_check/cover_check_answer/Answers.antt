-- What was read of the file says which answer it is.
use Rattle.command_answers.proofs.CoverFiles.{of_long, of_whole}
use Rattle.command_answers.proofs.cover_check.cover_check_answer.Goals as goal

pub returns-in-Whole : goal.returns-in-Whole
returns-in-Whole c =
    let game = c.args.game.now in
    of_whole c.table_answer.result game.slots game.graph c.args.file.now c.in-Whole.bytes c.deref.result.now c.in-Whole.is c.deref.ensures.value c.table_answer.ensures

pub returns-in-TooLong : goal.returns-in-TooLong
returns-in-TooLong c =
    let answer = c.refused.ensures in
    of_long c.refused.result c.args.game.now.slots c.args.game.now.graph c.args.file.now c.in-TooLong.is answer.status answer.text answer.none c.requires.room
