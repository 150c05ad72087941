-- When a run ends with a read fault, how much of the input it takes, and what the commands do with the file.
use Rattle.std.specs.Prelude.{◌≡◌, ◌≢◌, ℕ, Bool, true, false, List, Option, None, Some}
use Rattle.desk_io.specs.declared.desk.Kind.{Kind}
use Rattle.desk_io.specs.declared.desk.Kind.TheVariants.{TakeInput, TakeFile}
use Rattle.desk_io.specs.Counts.{Rose}
use Rattle.desk_io.specs.Known.{ToldFile, Tells}
use Rattle.command_words.specs.declared.commands.Checking.{Checking}
use Rattle.improve_answers.specs.declared.commands.ImproveCommand.{ImproveCommand}
use Rattle.improve_answers.specs.declared.commands.ImproveCommand.TheVariants.{Improve, Confirm}
use Rattle.improve_answers.specs.declared.commands.Improving.{Improving}
use Rattle.improve_cli.specs.Answers.{IsAdmitted}

-- the words ask for a command, which reads the input
abbrev pub reads_input : Option ImproveCommand → Bool
reads_input None = false
reads_input (Some asked) = true

-- the words ask for `confirm`, which reads the file
abbrev pub reads_file : Option ImproveCommand → Bool
reads_file (Some (Confirm asked)) = true
reads_file (Some (Improve asked)) = false
reads_file None = false

-- the words ask for `improve`, which writes the file
abbrev pub writes_file : Option ImproveCommand → Bool
writes_file (Some (Improve asked)) = true
writes_file (Some (Confirm asked)) = false
writes_file None = false

-- the most bytes that the input may have: 65,536 if the words ask for a command, and none that is read if they do not
abbrev pub input_limit : Option ImproveCommand → ℕ
input_limit None = 0
input_limit (Some asked) = 65536

-- A take failed that the words ask for: one of the input; or one of the file, which is read only by `confirm` and only if nothing refuses the
-- input. No take of the other was tried in vain.
pub data ReadCause (command : Option ImproveCommand) (input : Option (List ℕ)) (before now : Kind → ℕ) : Type 0 where
  of_input : (asked : ImproveCommand) → command ≡ Some asked → Rose (before TakeInput) (now TakeInput) → now TakeFile ≡ before TakeFile
      → ReadCause command input before now
  of_file : (asked : Checking) (text : List ℕ) → command ≡ Some (Confirm asked) → Tells input text → IsAdmitted (Confirm asked) text
      → Rose (before TakeFile) (now TakeFile) → now TakeInput ≡ before TakeInput → ReadCause command input before now

-- the desk tells the file, if the command reads it
abbrev pub IsFileTold : Option ImproveCommand → ToldFile → Type 0
IsFileTold command file = reads_file command ≡ true → (held : Option (List ℕ)) × (file ≡ Some held)

-- the status is a refusal, the words do not ask for `improve`, or they ask for it with the effort 0: then words, an input and a file have one answer
pub data IsFixed (command : Option ImproveCommand) (own : Bool) : Type 0 where
  refusal : own ≡ false → IsFixed command own
  not_improve : writes_file command ≡ false → IsFixed command own
  effortless : (asked : Improving) → command ≡ Some (Improve asked) → asked.effort ≡ 0 → IsFixed command own
