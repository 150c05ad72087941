-- What is to be shown of the own answers of a command, from which the laws of all answers follow.
use Rattle.std.proofs.Common.{◌≡◌, ℕ, true, false, List, Option, Some, None}
use Rattle.command_words.specs.declared.commands.Command.{Command}
use Rattle.command_answers.specs.declared.status.Status.{Status}
use Rattle.pebble_cli.specs.Answers.{OwnAnswers, IsAdmitted}
use Rattle.command_words.specs.Commands.{reads_file, writes_file}
use Rattle.pebble_cli.specs.Faults.{IsFileTold}
use Rattle.command_answers.specs.Status.{is_own}
use Rattle.desk_io.specs.Known.{ToldFile}
use Rattle.command_words.specs.Words.{IsInLimits}
pub use Rattle.command_answers.proofs.OneChecks.{AreOne}

-- of one answer: nothing refuses the input, the status is a command's own, a table is written only where the command writes, and a file that
-- is read is there
pub record IsKept (asked : Command) (input : List ℕ) (file : ToldFile) (status : Status) (printed : List ℕ) (table : Option (List ℕ)) : Type 0 where
  pub admitted : IsAdmitted asked input
  pub last : is_own status ≡ true
  pub untold : writes_file (Some asked) ≡ false → table ≡ None
  pub held : reads_file (Some asked) ≡ true → file ≡ Some None → ⊥

-- there is an answer
pub record HasOwn (asked : Command) (input : List ℕ) (file : ToldFile) : Type 0 where
  pub status : Status
  pub printed : List ℕ
  pub table : Option (List ℕ)
  pub answer : OwnAnswers asked input file status printed table

-- each answer is kept, all are one where the file is told that is read, and where nothing refuses the input there is one
pub record AreKept (asked : Command) : Type 0 where
  pub each : (input : List ℕ) (file : ToldFile) (status : Status) (printed : List ℕ) (table : Option (List ℕ))
      → OwnAnswers asked input file status printed table → IsKept asked input file status printed table
  pub once : (input : List ℕ) (file : ToldFile) (s t : Status) (p q : List ℕ) (a b : Option (List ℕ)) → IsFileTold (Some asked) file
      → OwnAnswers asked input file s p a → OwnAnswers asked input file t q b → AreOne s t p q a b
  pub some : (input : List ℕ) (file : ToldFile) → IsInLimits asked → (reads_file (Some asked) ≡ true → file ≡ Some None → ⊥)
      → IsAdmitted asked input → HasOwn asked input file
