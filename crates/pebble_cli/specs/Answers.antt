-- What the program answers to its words, its input and its file: the status, the printed text, and the table that is written, if one is.
-- Each command has its own answers, in a file of its own; before them stand the refusals, which go by its subject and its slots.
use Rattle.std.specs.Prelude.{◌≡◌, ℕ, ◌<◌, List, Option, None, Some}
use Rattle.comp_graph.specs.Dags.{degree}
use Rattle.comp_graph.specs.Graphs.{GraphParts, dag_of}
use Rattle.desk_io.specs.Known.{ToldFile, Tells}
use Rattle.kernel_ast.specs.KernelParts.{KernelParts}
use Rattle.command_words.specs.declared.commands.Command.{Command}
use Rattle.command_words.specs.declared.commands.Command.TheVariants.{Plan, Check, Run, Exec, Graph, Trial, Cover, CoverCheck, Parts, Judge, Tidy, Cache}
use Rattle.command_words.specs.declared.commands.Subject.TheVariants.{InputCode}
use Rattle.command_answers.specs.declared.status.Status.{Status}
use Rattle.command_answers.specs.Accepted.{IsAccepted}
use Rattle.command_answers.specs.CacheAnswers.{IsCached}
use Rattle.command_answers.specs.CheckAnswers.{Checks}
use Rattle.command_answers.specs.CoverAnswers.{IsCovered}
use Rattle.command_answers.specs.CoverCheckAnswers.{CoverChecks}
use Rattle.command_answers.specs.PartAnswers.{IsParted}
use Rattle.command_answers.specs.PlayAnswers.{Judges, Tidies}
use Rattle.command_answers.specs.CodeInputs.{IsCodeInput, IsNoCode}
use Rattle.command_words.specs.Commands.{subject, slots_of}
use Rattle.command_answers.specs.Subjects.{kernel_text}
use Rattle.command_answers.specs.ExecAnswers.{Executes}
use Rattle.command_answers.specs.GraphAnswers.{IsDrawn}
use Rattle.command_answers.specs.PlanAnswers.{IsPlanned}
use Rattle.command_answers.specs.Refusals.{IsUsage, IsFaulty, IsTooSmall}
use Rattle.command_answers.specs.RunAnswers.{Runs}
use Rattle.command_answers.specs.TrialAnswers.{IsTried}
use Rattle.scratch_machine.specs.Codes.{CodeParts}

-- the own answers of each command to an input and a file, as far as the desk tells the file
abbrev pub OwnAnswers : Command → List ℕ → ToldFile → Status → List ℕ → Option (List ℕ) → Type 0
OwnAnswers (Plan asked) input file = IsPlanned asked input
OwnAnswers (Check asked) input file = Checks asked input file
OwnAnswers Run input file = Runs input file
OwnAnswers Exec input file = Executes input file
OwnAnswers Graph input file = IsDrawn input
OwnAnswers (Trial asked) input file = IsTried asked
OwnAnswers (Cover asked) input file = IsCovered asked input
OwnAnswers (CoverCheck slots) input file = CoverChecks slots input file
OwnAnswers (Parts asked) input file = IsParted asked input
OwnAnswers (Judge slots) input file = Judges slots input file
OwnAnswers (Tidy slots) input file = Tidies slots input file
OwnAnswers (Cache asked) input file = IsCached asked input

-- The status, the text and the table that answer words with this input and this file, as far as the desk tells the file: words that
-- spell no command, a kernel with a fault, an input that is no code, too few slots, and else an answer of the command's own.
pub data Answers (command : Option Command) (input : List ℕ) (file : ToldFile) (status : Status) (printed : List ℕ) (table : Option (List ℕ)) : Type 0 where
  usage : command ≡ None → IsUsage status printed table → Answers command input file status printed table
  faulty_kernel : (asked : Command) (text : List ℕ) → command ≡ Some asked → kernel_text (subject asked) input ≡ Some text
      → IsFaulty text status printed table → Answers command input file status printed table
  no_code : (asked : Command) → command ≡ Some asked → subject asked ≡ InputCode → IsNoCode input status printed table → Answers command input file status printed table
  too_few_slots : (asked : Command) (text : List ℕ) (slots : ℕ) → command ≡ Some asked → kernel_text (subject asked) input ≡ Some text
      → slots_of asked ≡ Some slots → IsTooSmall slots text status printed table → Answers command input file status printed table
  own_answer : (asked : Command) → command ≡ Some asked → OwnAnswers asked input file status printed table
      → Answers command input file status printed table

-- the text is accepted, and where there are slots they are more than the degree of its graph
pub record HasRoom (slots : Option ℕ) (text : List ℕ) : Type 0 where
  pub kernel : KernelParts
  pub graph : GraphParts
  pub accepted : IsAccepted text kernel graph
  pub room : (count : ℕ) → slots ≡ Some count → degree (dag_of graph) < count

-- nothing refuses the command with this input: its kernel is accepted, and its slots are enough for it; or the input is a code
pub data IsAdmitted (asked : Command) (input : List ℕ) : Type 0 where
  kernel_with_room : (text : List ℕ) → kernel_text (subject asked) input ≡ Some text → HasRoom (slots_of asked) text → IsAdmitted asked input
  code_input : (code : CodeParts) → subject asked ≡ InputCode → IsCodeInput input code → IsAdmitted asked input

-- the input is one that is admitted to the command, as far as the desk tells it
pub record HasAdmitted (asked : Command) (input : Option (List ℕ)) : Type 0 where
  pub text : List ℕ
  pub told : Tells input text
  pub admitted : IsAdmitted asked text
