-- Where each status of `trial` stands, over the definitions alone.
use Rattle.std.specs.Prelude.{◌≡◌, ◌⊎◌, ℕ, ◌<◌, List, Option, Some}
use Rattle.comp_graph.specs.Dags.{degree}
use Rattle.comp_graph.specs.Graphs.{GraphParts, dag_of}
use Rattle.desk_io.specs.declared.desk.Kind.{Kind}
use Rattle.kernel_ast.specs.KernelParts.{KernelParts}
use Rattle.kernel_gen.specs.Trials.{trial_kernel}
use Rattle.plan_report.specs.TrialText.{trial_text}
use Rattle.potential_cert.specs.Table.{TableParts}
use Rattle.potential_cert.specs.TableBytes.{table_bytes}
use Rattle.command_words.specs.declared.commands.Command.TheVariants.{Trial}
use Rattle.command_words.specs.declared.commands.TrialPlanning.{TrialPlanning}
use Rattle.command_answers.specs.declared.status.Status.{Status}
use Rattle.command_answers.specs.declared.status.Status.TheVariants.{Done, TooSmall}
use Rattle.command_answers.specs.Accepted.{IsAccepted}
use Rattle.pebble_cli.specs.Answers.{Answers}
use Rattle.pebble_cli.specs.Faults.{ReadCause}
use Rattle.command_answers.specs.PlanAnswers.{PlanNumbers, IsShown, facts_of}
use Rattle.command_answers.specs.Refusals.{IsTooSmall}
use Rattle.desk_io.specs.Known.{ToldFile}
use Rattle.command_answers.specs.TrialAnswers.{IsTried, planning_of}
use Rattle.command_words.specs.Words.{IsInLimits}

-- Something holds of each answer of `trial` to numbers in their range.
abbrev pub OfTrials : (TrialPlanning → Status → List ℕ → Option (List ℕ) → Type 0) → Type 0
OfTrials P = (asked : TrialPlanning) (input : List ℕ) (file : ToldFile) (status : Status) (printed : List ℕ) (table : Option (List ℕ))
    → IsInLimits (Trial asked) → Answers (Some (Trial asked)) input file status printed table → P asked status printed table

-- The answers of `trial`: too few slots, or the lines and the table of a plan. A trial kernel has no fault.
abbrev pub TrialStatuses : Type 0
TrialStatuses = OfTrials (λ asked status printed table.
    ((status ≡ TooSmall) × IsTooSmall asked.slots (trial_kernel asked.statements) status printed table) ⊎ ((status ≡ Done) × IsTried asked status printed table))

-- Where there are more slots than the degree of the trial kernel's graph, it is Done.
abbrev pub DoneWhereRoom : Type 0
DoneWhereRoom = OfTrials (λ asked status printed table. (kernel : KernelParts) (graph : GraphParts) → IsAccepted (trial_kernel asked.statements) kernel graph
    → degree (dag_of graph) < asked.slots → status ≡ Done)

-- There it is what all numbers and each table say that are shown of that graph: the five lines have them, and the table is written. So no
-- others are shown of it.
abbrev pub TrialsAreAsShown : Type 0
TrialsAreAsShown = OfTrials (λ asked status printed table. (kernel : KernelParts) (graph : GraphParts) → IsAccepted (trial_kernel asked.statements) kernel graph
    → degree (dag_of graph) < asked.slots → (numbers : PlanNumbers) (t : TableParts) → IsShown graph (planning_of asked) numbers t
    → (printed ≡ trial_text asked.statements (facts_of graph (planning_of asked) numbers)) × (table ≡ Some (table_bytes t)))

-- No take from the input or the file is a cause of a read fault of `trial`.
abbrev pub NoReadOfTrials : Type 0
NoReadOfTrials = (asked : TrialPlanning) (input : Option (List ℕ)) (before now : Kind → ℕ) → ReadCause (Some (Trial asked)) input before now → ⊥
