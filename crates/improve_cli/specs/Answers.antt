-- What the program answers to its words, its input and its file: the status, the printed text, and the table that is written, if one is. Each
-- command has its own answers; before them come the refusals.
use Rattle.std.specs.Prelude.{◌≡◌, ℕ, ◌<◌, List, Option, None, Some}
use Rattle.comp_graph.specs.Dags.{degree}
use Rattle.comp_graph.specs.Graphs.{GraphParts, dag_of}
use Rattle.desk_io.specs.Known.{ToldFile, Tells}
use Rattle.kernel_ast.specs.KernelParts.{KernelParts}
use Rattle.command_answers.specs.declared.answer.Answer.{Answer}
use Rattle.command_answers.specs.declared.status.Status.{Status}
use Rattle.command_answers.specs.Accepted.{IsAccepted}
use Rattle.command_answers.specs.MadeAnswers.{Meets}
use Rattle.command_answers.specs.Refusals.{IsFaulty, IsTooSmall}
use Rattle.improve_answers.specs.declared.commands.ImproveCommand.{ImproveCommand}
use Rattle.improve_answers.specs.declared.commands.ImproveCommand.TheVariants.{Improve, Confirm}
use Rattle.improve_answers.specs.Confirms.{Confirms}
use Rattle.improve_answers.specs.Improved.{IsImproved}
use Rattle.improve_answers.specs.ImproveUsage.{IsUsage}
use Rattle.improve_answers.specs.ImproveWords.{slots_of}

-- the own answers of each command to an input and a file, as far as the desk tells the file
abbrev pub OwnAnswers : ImproveCommand → List ℕ → ToldFile → Status → List ℕ → Option (List ℕ) → Type 0
OwnAnswers (Improve asked) input file = IsImproved asked input
OwnAnswers (Confirm asked) input file = Confirms asked input file

-- The status, the text and the table that answer words with this input and this file, as far as the desk tells the file: words that spell no
-- command, a kernel with a fault, too few slots, and else an answer of the command's own.
pub data Answers (command : Option ImproveCommand) (input : List ℕ) (file : ToldFile) (status : Status) (printed : List ℕ) (table : Option (List ℕ)) : Type 0 where
  usage : command ≡ None → IsUsage status printed table → Answers command input file status printed table
  faulty_kernel : (asked : ImproveCommand) → command ≡ Some asked → IsFaulty input status printed table → Answers command input file status printed table
  too_few_slots : (asked : ImproveCommand) → command ≡ Some asked → IsTooSmall (slots_of asked) input status printed table
      → Answers command input file status printed table
  own_answer : (asked : ImproveCommand) → command ≡ Some asked → OwnAnswers asked input file status printed table
      → Answers command input file status printed table

-- nothing refuses the command with this input: its kernel is accepted, and its slots are enough for it
pub record IsAdmitted (asked : ImproveCommand) (input : List ℕ) : Type 0 where
  pub kernel : KernelParts
  pub graph : GraphParts
  pub accepted : IsAccepted input kernel graph
  pub room : degree (dag_of graph) < slots_of asked

-- the answer answers the command, its input and its file, as far as the desk tells these two
abbrev pub AnswersInput : Option ImproveCommand → Option (List ℕ) → ToldFile → Answer → Type 0
AnswersInput command input file answer = (text : List ℕ) × Tells input text × Meets (Answers command text file) answer
