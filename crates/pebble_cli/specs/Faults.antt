-- When a run ends with a read fault and how much of the input it took then, and when the file tells enough to say the answer.
use Rattle.std.specs.Prelude.{◌≡◌, ℕ, true, List, Option, None, Some}
use Rattle.desk_io.specs.declared.desk.Kind.{Kind}
use Rattle.desk_io.specs.declared.desk.Kind.TheVariants.{TakeInput, TakeFile}
use Rattle.desk_io.specs.Counts.{Rose}
use Rattle.command_words.specs.declared.commands.Command.{Command}
use Rattle.pebble_cli.specs.Answers.{HasAdmitted}
use Rattle.command_words.specs.declared.commands.Subject.{Subject}
use Rattle.command_words.specs.declared.commands.Subject.TheVariants.{InputKernel, InputCode, TrialKernel}
use Rattle.command_words.specs.Commands.{subject, reads_input, reads_file}
use Rattle.desk_io.specs.Known.{ToldFile}

-- a take failed that the words ask for: one of the input; or one of the file, which is read only where the command reads it and nothing
-- refuses the input; no take of the other was tried in vain
pub data ReadCause (command : Option Command) (input : Option (List ℕ)) (before now : Kind → ℕ) : Type 0 where
  of_input : reads_input command ≡ true → Rose (before TakeInput) (now TakeInput) → now TakeFile ≡ before TakeFile → ReadCause command input before now
  of_file : (asked : Command) → command ≡ Some asked → reads_file command ≡ true → HasAdmitted asked input
      → Rose (before TakeFile) (now TakeFile) → now TakeInput ≡ before TakeInput → ReadCause command input before now

-- the most bytes that the text of a subject in the input may have: 65,536 of a kernel, 20,000,000 of a code
abbrev pub subject_limit : Subject → ℕ
subject_limit InputKernel = 65536
subject_limit InputCode = 20000000
subject_limit (TrialKernel statements) = 0

-- the same for the words: none where they spell no command, or one that reads no input
abbrev pub input_limit : Option Command → ℕ
input_limit None = 0
input_limit (Some asked) = subject_limit (subject asked)

-- the desk tells the file, if the command reads it
abbrev pub IsFileTold : Option Command → ToldFile → Type 0
IsFileTold command file = reads_file command ≡ true → (held : Option (List ℕ)) × (file ≡ Some held)
