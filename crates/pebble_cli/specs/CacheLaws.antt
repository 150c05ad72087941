-- Where each status of `cache` stands, over the definitions alone.
use Rattle.std.specs.Prelude.{◌≡◌, ◌⊎◌, ℕ, ◌*◌, ◌-◌, ◌^◌, ◌≤◌, ◌<◌, List, length, Option, Some}
use Rattle.comp_graph.specs.Dags.{degree}
use Rattle.comp_graph.specs.Graphs.{GraphParts, dag_of}
use Rattle.kernel_ast.specs.KernelParts.{KernelParts}
use Rattle.command_words.specs.declared.commands.Caching.{Caching}
use Rattle.command_words.specs.declared.commands.Command.TheVariants.{Cache}
use Rattle.command_answers.specs.declared.status.Status.{Status}
use Rattle.command_answers.specs.declared.status.Status.TheVariants.{Optimal, Open}
use Rattle.command_answers.specs.Accepted.{IsAccepted}
use Rattle.command_answers.specs.CacheAnswers.{IsCached}
use Rattle.desk_io.specs.Known.{ToldFile}
use Rattle.pebble_cli.specs.AnswerLaws.{RefusedOr}
use Rattle.pebble_cli.specs.Answers.{Answers}

-- The answers of `cache`: a kernel's fault, too few slots, or the run of the cache beside a plan, with the verdict of the plan.
abbrev pub CacheStatuses : Type 0
CacheStatuses = (asked : Caching) (input : List ℕ) (file : ToldFile) (status : Status) (printed : List ℕ) (table : Option (List ℕ))
    → Answers (Some (Cache asked)) input file status printed table
    → RefusedOr input asked.slots status printed table (((status ≡ Optimal) ⊎ (status ≡ Open)) × IsCached asked input status printed table)

-- An accepted kernel with more slots than the degree of its graph gets the last of these.
abbrev pub CachesAreAnswered : Type 0
CachesAreAnswered = (asked : Caching) (input : List ℕ) (file : ToldFile) (status : Status) (printed : List ℕ) (table : Option (List ℕ))
    (kernel : KernelParts) (graph : GraphParts) → Answers (Some (Cache asked)) input file status printed table → IsAccepted input kernel graph
    → degree (dag_of graph) < asked.slots → ((status ≡ Optimal) ⊎ (status ≡ Open)) × IsCached asked input status printed table

-- Open never comes where the budget is at least 2 to the power 2n - i, with n vertices and i inputs.
abbrev pub CachesAreOptimalWhereEnough : Type 0
CachesAreOptimalWhereEnough = (asked : Caching) (input : List ℕ) (file : ToldFile) (status : Status) (printed : List ℕ) (table : Option (List ℕ))
    (kernel : KernelParts) (graph : GraphParts) → Answers (Some (Cache asked)) input file status printed table → IsAccepted input kernel graph
    → degree (dag_of graph) < asked.slots → 2 ^ (2 * length graph.nodes - length graph.names) ≤ asked.budget → status ≡ Optimal
