-- What each command works on, its slots and weights, and what it does with the file that its words name (this project's convention).
use Rattle.std.specs.Prelude.{ℕ, Bool, true, false, Option, None, Some}
use Rattle.comp_graph.specs.declared.costs.Weights.{Weights}
use Rattle.comp_graph.specs.Games.{unit_weights}
use Rattle.command_words.specs.declared.commands.Command.{Command}
use Rattle.command_words.specs.declared.commands.Command.TheVariants.{Plan, Check, Run, Exec, Graph, Trial, Cover, CoverCheck, Parts, Judge, Tidy, Cache}
use Rattle.command_words.specs.declared.commands.Subject.{Subject}
use Rattle.command_words.specs.declared.commands.Subject.TheVariants.{InputKernel, InputCode, TrialKernel}

-- what a command does with the file
pub data FileUse : Type 0 where
  untouched read written : FileUse

-- what the command works on
abbrev pub subject : Command → Subject
subject (Plan asked) = InputKernel
subject (Check asked) = InputKernel
subject Run = InputKernel
subject Exec = InputCode
subject Graph = InputKernel
subject (Trial asked) = TrialKernel asked.statements
subject (Cover asked) = InputKernel
subject (CoverCheck slots) = InputKernel
subject (Parts asked) = InputKernel
subject (Judge slots) = InputKernel
subject (Tidy slots) = InputKernel
subject (Cache asked) = InputKernel

-- the number of its slots, if it has slots
abbrev pub slots_of : Command → Option ℕ
slots_of (Plan asked) = Some asked.slots
slots_of (Check asked) = Some asked.slots
slots_of Run = None
slots_of Exec = None
slots_of Graph = None
slots_of (Trial asked) = Some asked.slots
slots_of (Cover asked) = Some asked.slots
slots_of (CoverCheck slots) = Some slots
slots_of (Parts asked) = Some asked.slots
slots_of (Judge slots) = Some slots
slots_of (Tidy slots) = Some slots
slots_of (Cache asked) = Some asked.slots

-- the weights of the game that it plays: those that are asked for, or 1 and 1
abbrev pub played_weights : Command → Weights
played_weights (Plan asked) = asked.weights
played_weights (Check asked) = asked.weights
played_weights asked = unit_weights

-- what it does with the file
abbrev pub file_use : Command → FileUse
file_use (Plan asked) = written
file_use (Check asked) = read
file_use Run = read
file_use Exec = read
file_use Graph = untouched
file_use (Trial asked) = written
file_use (Cover asked) = written
file_use (CoverCheck slots) = read
file_use (Parts asked) = written
file_use (Judge slots) = read
file_use (Tidy slots) = read
file_use (Cache asked) = written

-- the subject stands in the input
abbrev pub is_in_input : Subject → Bool
is_in_input InputKernel = true
is_in_input InputCode = true
is_in_input (TrialKernel statements) = false

-- the file is read
abbrev pub is_read : FileUse → Bool
is_read read = true
is_read other = false

-- the file is written
abbrev pub is_written : FileUse → Bool
is_written written = true
is_written other = false

-- the words ask for a command that reads the input
abbrev pub reads_input : Option Command → Bool
reads_input None = false
reads_input (Some asked) = is_in_input (subject asked)

-- the words ask for a command that reads the file
abbrev pub reads_file : Option Command → Bool
reads_file None = false
reads_file (Some asked) = is_read (file_use asked)

-- the words ask for a command that writes the file
abbrev pub writes_file : Option Command → Bool
writes_file None = false
writes_file (Some asked) = is_written (file_use asked)
