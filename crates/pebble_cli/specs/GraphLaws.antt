-- Where each status of `graph` stands, over the definitions alone.
use Rattle.std.specs.Prelude.{◌≡◌, ◌⊎◌, ℕ, List, Option, Some}
use Rattle.comp_graph.specs.Graphs.{GraphParts}
use Rattle.kernel_ast.specs.KernelParts.{KernelParts}
use Rattle.plan_report.specs.GraphText.{graph_text}
use Rattle.command_words.specs.declared.commands.Command.TheVariants.{Graph}
use Rattle.command_answers.specs.declared.status.Status.{Status}
use Rattle.command_answers.specs.declared.status.Status.TheVariants.{Done, Kernel}
use Rattle.command_answers.specs.Accepted.{IsAccepted}
use Rattle.pebble_cli.specs.Answers.{Answers}
use Rattle.command_answers.specs.GraphAnswers.{IsDrawn}
use Rattle.command_answers.specs.Refusals.{IsFaulty}
use Rattle.desk_io.specs.Known.{ToldFile}

-- The answers of `graph`: a kernel's fault, or the text of its graph.
abbrev pub GraphStatuses : Type 0
GraphStatuses = (input : List ℕ) (file : ToldFile) (status : Status) (printed : List ℕ) (table : Option (List ℕ))
    → Answers (Some Graph) input file status printed table
    → ((status ≡ Kernel) × IsFaulty input status printed table) ⊎ ((status ≡ Done) × IsDrawn input status printed table)

-- An accepted kernel is answered with Done, and the text of its graph is printed.
abbrev pub DoneWhereAccepted : Type 0
DoneWhereAccepted = (input : List ℕ) (file : ToldFile) (status : Status) (printed : List ℕ) (table : Option (List ℕ))
    (kernel : KernelParts) (graph : GraphParts) → Answers (Some Graph) input file status printed table → IsAccepted input kernel graph
    → (status ≡ Done) × (printed ≡ graph_text graph)
