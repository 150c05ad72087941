-- How an answer that was made stands to what the desk tells.
use Rattle.std.specs.Prelude.{ℕ, List}
use Rattle.std.specs.declared.option.Option.{Option}
use Rattle.desk_io.specs.Known.{ToldFile, Tells}
use Rattle.command_answers.specs.declared.answer.Answer.{Answer}
use Rattle.command_answers.specs.MadeAnswers.{Meets}
use Rattle.command_words.specs.declared.commands.Command.{Command}
use Rattle.pebble_cli.specs.Answers.{Answers}

-- the answer answers the command, its input and its file, as far as the desk tells these two
abbrev pub AnswersInput : Option Command → Option (List ℕ) → ToldFile → Answer → Type 0
AnswersInput command input file answer = (text : List ℕ) × Tells input text × Meets (Answers command text file) answer
