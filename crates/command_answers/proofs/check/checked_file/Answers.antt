-- What was read of the file says what it proves.
use Rattle.comp_graph.specs.Games.{game_of}
use Rattle.command_answers.proofs.TableFiles.{proved_of_long, proved_of_whole}
use Rattle.command_answers.proofs.check.checked_file.Goals as goal

pub returns-in-Whole : goal.returns-in-Whole
returns-in-Whole c =
    proved_of_whole c.checked_bytes.result (game_of c.args.game.now) c.args.file.now c.in-Whole.bytes c.deref.result.now c.in-Whole.is c.deref.ensures.value c.checked_bytes.ensures

pub returns-in-TooLong : goal.returns-in-TooLong
returns-in-TooLong c = λ told of_file. proved_of_long (game_of c.args.game.now) c.args.file.now told c.in-TooLong.is of_file
