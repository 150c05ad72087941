-- Where each status of `plan` stands, over the definitions alone.
use Rattle.std.specs.Prelude.{◌≡◌, ◌⊎◌, ℕ, ◌*◌, ◌-◌, ◌^◌, ◌≤◌, ◌<◌, List, length, Option, Some}
use Rattle.comp_graph.specs.Dags.{degree}
use Rattle.comp_graph.specs.Graphs.{GraphParts, dag_of}
use Rattle.kernel_ast.specs.KernelParts.{KernelParts}
use Rattle.potential_cert.specs.Table.{IsSupport, TableParts}
use Rattle.potential_cert.specs.TableBytes.{table_bytes}
use Rattle.slot_alloc.specs.PlanCode.{plan_code}
use Rattle.command_words.specs.declared.commands.Command.TheVariants.{Plan}
use Rattle.command_words.specs.declared.commands.Planning.{Planning}
use Rattle.command_answers.specs.declared.status.Status.{Status}
use Rattle.command_answers.specs.declared.status.Status.TheVariants.{Optimal, Kernel, TooSmall, Open}
use Rattle.command_answers.specs.Accepted.{IsAccepted}
use Rattle.pebble_cli.specs.Answers.{Answers}
use Rattle.command_answers.specs.PlanAnswers.{PlanNumbers, IsPlanned, IsShown, plan_asked, plan_text, rows_asked, verdict_status}
use Rattle.command_answers.specs.PlayedGames.{played_for}
use Rattle.command_answers.specs.Refusals.{IsFaulty, IsTooSmall}
use Rattle.desk_io.specs.Known.{ToldFile}

-- The answers of `plan`: a kernel's fault, too few slots, or a plan with its verdict.
abbrev pub PlanStatuses : Type 0
PlanStatuses = (asked : Planning) (input : List ℕ) (file : ToldFile) (status : Status) (printed : List ℕ) (table : Option (List ℕ))
    → Answers (Some (Plan asked)) input file status printed table
    → ((status ≡ Kernel) × IsFaulty input status printed table) ⊎ (((status ≡ TooSmall) × IsTooSmall asked.slots input status printed table)
    ⊎ (((status ≡ Optimal) ⊎ (status ≡ Open)) × IsPlanned asked input status printed table))

-- Something holds of each answer of `plan` to an accepted kernel with more slots than the degree of its graph.
abbrev pub OfPlans : (Planning → KernelParts → GraphParts → Status → List ℕ → Option (List ℕ) → Type 0) → Type 0
OfPlans P = (asked : Planning) (input : List ℕ) (file : ToldFile) (status : Status) (printed : List ℕ) (table : Option (List ℕ))
    (kernel : KernelParts) (graph : GraphParts) → Answers (Some (Plan asked)) input file status printed table → IsAccepted input kernel graph
    → degree (dag_of graph) < asked.slots → P asked kernel graph status printed table

-- There it is Optimal or Open.
abbrev pub PlansAreAnswered : Type 0
PlansAreAnswered = OfPlans (λ asked kernel graph status printed table. (status ≡ Optimal) ⊎ (status ≡ Open))

-- There it is what all numbers and each table say that are shown of the graph: the status is their verdict, the report has them, behind it
-- stands the code of the plan that the search finds, and the table is written. So no others are shown of it.
abbrev pub PlansAreAsShown : Type 0
PlansAreAsShown = OfPlans (λ asked kernel graph status printed table. (numbers : PlanNumbers) (t : TableParts) → IsShown graph asked numbers t
    → (status ≡ verdict_status numbers.optimal)
    × (printed ≡ plan_text kernel.title graph asked (record { numbers = numbers; code = plan_code (plan_asked asked graph) }))
    × (table ≡ Some (table_bytes t)))

-- The number is the support of the rows of the search and the cost of the plan that it finds.
abbrev pub IsBoundAsked : Planning → GraphParts → ℕ → Type 0
IsBoundAsked asked graph bound = IsSupport (played_for asked graph) (rows_asked asked graph) (plan_asked asked graph).total bound

-- There it is Optimal where this bound is the cost of the plan, and Open where it is below.
abbrev pub OptimalWhereTight : Type 0
OptimalWhereTight = OfPlans (λ asked kernel graph status printed table. IsBoundAsked asked graph (plan_asked asked graph).total → status ≡ Optimal)

abbrev pub OpenWhereLoose : Type 0
OpenWhereLoose = OfPlans (λ asked kernel graph status printed table. (bound : ℕ) → IsBoundAsked asked graph bound → bound < (plan_asked asked graph).total → status ≡ Open)

-- Open never comes where the budget is at least 2 to the power 2n - i, with n vertices and i inputs: there are no more positions in which the
-- inputs are blue.
abbrev pub OptimalWhereEnough : Type 0
OptimalWhereEnough = OfPlans (λ asked kernel graph status printed table. 2 ^ (2 * length graph.nodes - length graph.names) ≤ asked.budget → status ≡ Optimal)
