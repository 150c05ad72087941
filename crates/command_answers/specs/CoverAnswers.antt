-- What `cover` answers to an accepted kernel with enough slots (this project's convention): what `plan` prints, of the search whose tables
-- may name, for a step, a row that covers the position to which it leads; and the covered table of that search. A load and a store cost 1.
use Rattle.std.specs.Prelude.{◌≡◌, ℕ, ◌≤◌, ◌<◌, ◌↔◌, true, false, List, length, Option, Some}
use Rattle.comp_graph.specs.Dags.{degree}
use Rattle.comp_graph.specs.Games.{unit_weights}
use Rattle.comp_graph.specs.Graphs.{GraphParts, IsGraph, dag_of}
use Rattle.cover_cert.specs.CoverAnswer.{AreCoverRows}
use Rattle.cover_cert.specs.CoverBytes.{IsCoverSpelling}
use Rattle.cover_cert.specs.CoverSearch.{CoverSearch, cover_searched}
use Rattle.cover_cert.specs.CoverTable.{CoverTableParts, IsCoverSupport, IsCoverTableOf}
use Rattle.first_plan.specs.FirstPlan.{first_steps}
use Rattle.kernel_ast.specs.KernelParts.{KernelParts}
use Rattle.normal_steps.specs.Plans.{PlanParts}
use Rattle.normal_steps.specs.Steps.{total_cost}
use Rattle.pebble_rules.specs.declared.moves.Move.{Move}
use Rattle.pebble_rules.specs.Rules.{start, IsComplete, cost as moves_cost}
use Rattle.slot_alloc.specs.PlanCode.{plan_code}
use Rattle.command_words.specs.declared.commands.Covering.{Covering}
use Rattle.command_words.specs.declared.commands.Planning.{Planning}
use Rattle.command_answers.specs.declared.status.Status.{Status}
use Rattle.command_answers.specs.Accepted.{IsAccepted}
use Rattle.command_answers.specs.PlanAnswers.{PlanNumbers, PrintedPlan, first_plan_of, plan_text, verdict_status}
use Rattle.command_answers.specs.PlayedGames.{game_asked, played_for}
use Rattle.command_answers.specs.RightCodes.{IsRightCode}

-- what is asked for of the plan: a load and a store cost 1
abbrev pub planning_covered : Covering → Planning
planning_covered asked = record { slots = asked.slots; budget = asked.budget; weights = unit_weights }

-- the search that is asked for: it names covering rows, and goes on from the first plan of the game on the graph, with the budget of positions
abbrev pub cover_asked : Covering → GraphParts → CoverSearch
cover_asked asked graph = cover_searched (played_for (planning_covered asked) graph) (first_steps (played_for (planning_covered asked) graph)) asked.budget

-- the plan that it finds, which is the first plan where it finds none that costs less
abbrev pub cover_plan_asked : Covering → GraphParts → PlanParts
cover_plan_asked asked graph = record {
  game = game_asked (planning_covered asked) graph;
  steps = (cover_asked asked graph).search.plan;
  total = total_cost (played_for (planning_covered asked) graph) (start (played_for (planning_covered asked) graph)) (cover_asked asked graph).search.plan;
}

-- The numbers and the covered table are those of the plan that the search finds, on a graph with the slots and the budget of positions that
-- are asked for.
pub record IsCoverShown (graph : GraphParts) (asked : Covering) (numbers : PlanNumbers) (table : CoverTableParts) : Type 0 where
  -- the printed cost of the first plan is its cost, and the answered plan costs no more
  pub first : numbers.first ≡ (first_plan_of (game_asked (planning_covered asked) graph)).total
  pub no_more : numbers.cost ≤ numbers.first
  -- the table has the numbers of the graph, the slots and the weights, its rows strictly rise, their names are good, and they support its
  -- bound, which is printed; and it has as many rows as positions were expanded
  pub tabled : IsCoverTableOf (played_for (planning_covered asked) graph) table
  pub bound : table.bound ≡ numbers.bound
  pub expanded : length table.rows ≡ numbers.expanded
  -- the rows with their costs and their names are those of the search, and the cost is that of the plan that it finds
  pub rows : AreCoverRows (played_for (planning_covered asked) graph) (first_steps (played_for (planning_covered asked) graph)) asked.budget table.rows
  pub cost : numbers.cost ≡ (cover_plan_asked asked graph).total
  -- the bound is the support of the rows with their names and the cost
  pub support : IsCoverSupport (played_for (planning_covered asked) graph) table.rows numbers.cost numbers.bound
  -- no more positions than the budget were expanded; Optimal exactly where the bound is the cost; else as many positions as the budget
  -- were expanded, and the bound is below the cost
  pub few : numbers.expanded ≤ asked.budget
  pub is_optimal : (numbers.optimal ≡ true) ↔ (numbers.bound ≡ numbers.cost)
  pub is_open : (numbers.optimal ≡ false) ↔ ((numbers.expanded ≡ asked.budget) × (numbers.bound < numbers.cost))
  -- no complete pebbling costs less than the bound, whatever it computes again, drops or moves in vain
  pub lowest : (moves : List Move) → IsComplete (played_for (planning_covered asked) graph) (start (played_for (planning_covered asked) graph)) moves
      → numbers.bound ≤ moves_cost (played_for (planning_covered asked) graph) moves

-- The text is accepted, and there are more slots than the degree of its graph; the numbers and the covered table are those of the search, and
-- the code is that of the plan that it finds, and right. The status is the verdict, the report and the code are printed, and the bytes of
-- the table are written.
pub record IsCovered (asked : Covering) (text : List ℕ) (status : Status) (printed : List ℕ) (table : Option (List ℕ)) : Type 0 where
  pub kernel : KernelParts
  pub graph : GraphParts
  pub accepted : IsAccepted text kernel graph
  pub valid : IsGraph graph
  pub room : degree (dag_of graph) < asked.slots
  pub plan : PrintedPlan
  pub table_parts : CoverTableParts
  pub shown : IsCoverShown graph asked plan.numbers table_parts
  pub code : plan.code ≡ plan_code (cover_plan_asked asked graph)
  pub right : IsRightCode kernel (game_asked (planning_covered asked) graph) plan.code plan.numbers.cost
  pub ends : status ≡ verdict_status plan.numbers.optimal
  pub report : printed ≡ plan_text kernel.title graph (planning_covered asked) plan
  pub bytes : List ℕ
  pub written : table ≡ Some bytes
  pub spelled : IsCoverSpelling bytes table_parts
