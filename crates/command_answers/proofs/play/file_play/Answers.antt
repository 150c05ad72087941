-- A file that is too long holds no complete pebbling.
use Rattle.std.proofs.Common.{subst}
use Rattle.command_answers.specs.MadeAnswers.{IsFileOf}
use Rattle.command_answers.specs.PlayAnswers.{too_long}
use Rattle.command_answers.proofs.ToldBytes.{told_more_file}
use Rattle.command_answers.proofs.play.file_play.Goals as goal

pub returns-in_ok-bad_line-in-TooLong : goal.returns-in_ok-bad_line-in-TooLong
returns-in_ok-bad_line-in-TooLong c =
    let answer = c.in_ok-bad_line-in-TooLong.ensures in
    record {
      play = λ held of_file.
          let more = told_more_file held 20000000 (subst (IsFileOf held 20000000) c.in-TooLong.is of_file) in
          (more.0, more.1, record { holds_none = too_long more.2 answer.text; ends = answer.status; none = answer.none });
    }
