-- Where each status of `parts` stands, over the definitions alone.
use Rattle.std.specs.Prelude.{◌≡◌, ℕ, ◌<◌, List, Option, Some}
use Rattle.comp_graph.specs.Dags.{degree}
use Rattle.comp_graph.specs.Graphs.{GraphParts, dag_of}
use Rattle.kernel_ast.specs.KernelParts.{KernelParts}
use Rattle.command_words.specs.declared.commands.Command.TheVariants.{Parts}
use Rattle.command_words.specs.declared.commands.PartPlanning.{PartPlanning}
use Rattle.command_answers.specs.declared.status.Status.{Status}
use Rattle.command_answers.specs.declared.status.Status.TheVariants.{Done}
use Rattle.command_answers.specs.Accepted.{IsAccepted}
use Rattle.command_answers.specs.PartAnswers.{IsParted}
use Rattle.desk_io.specs.Known.{ToldFile}
use Rattle.pebble_cli.specs.AnswerLaws.{RefusedOr}
use Rattle.pebble_cli.specs.Answers.{Answers}

-- The answers of `parts`: a kernel's fault, too few slots, or the bounds of the parts and their sum.
abbrev pub PartStatuses : Type 0
PartStatuses = (asked : PartPlanning) (input : List ℕ) (file : ToldFile) (status : Status) (printed : List ℕ) (table : Option (List ℕ))
    → Answers (Some (Parts asked)) input file status printed table
    → RefusedOr input asked.slots status printed table ((status ≡ Done) × IsParted asked input status printed table)

-- An accepted kernel with more slots than the degree of its graph gets the last of these.
abbrev pub PartsAreAnswered : Type 0
PartsAreAnswered = (asked : PartPlanning) (input : List ℕ) (file : ToldFile) (status : Status) (printed : List ℕ) (table : Option (List ℕ))
    (kernel : KernelParts) (graph : GraphParts) → Answers (Some (Parts asked)) input file status printed table → IsAccepted input kernel graph
    → degree (dag_of graph) < asked.slots → (status ≡ Done) × IsParted asked input status printed table
