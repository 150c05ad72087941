-- What `improve` answers to an accepted kernel with enough slots. Which plan it finds, and which table, is not fixed, but for the effort 0: that they
-- are right is. This is the promise of the program for a kernel that it accepts.
use Rattle.std.specs.Prelude.{◌≡◌, ◌==◌, ℕ, ◌*◌, ◌≤◌, ◌<◌, ◌↔◌, true, false, List, ◌++◌, length, min, Option, Some}
use Rattle.comp_graph.specs.Dags.{degree}
use Rattle.comp_graph.specs.Graphs.{GraphParts, IsGraph, dag_of}
use Rattle.comp_graph.specs.Games.{GameParts, PebbleGame, game_of}
use Rattle.pebble_rules.specs.declared.moves.Move.{Move}
use Rattle.pebble_rules.specs.Rules.{start, IsComplete, cost as moves_cost}
use Rattle.forced_bounds.specs.Floor.{floor}
use Rattle.normal_steps.specs.Plans.{PlanParts, IsPlan}
use Rattle.slot_alloc.specs.PlanCode.{plan_code}
use Rattle.kernel_ast.specs.KernelParts.{KernelParts}
use Rattle.plan_report.specs.declared.facts.Facts.{Facts}
use Rattle.plan_report.specs.ReportText.{effort_report_text}
use Rattle.potential_cert.specs.GameTables.{IsTableOf}
use Rattle.potential_cert.specs.Table.{TableParts}
use Rattle.potential_cert.specs.TableBytes.{IsInRange, IsSpelling}
use Rattle.scratch_code.specs.CodeText.{code_text}
use Rattle.command_words.specs.declared.commands.Planning.{Planning}
use Rattle.command_answers.specs.declared.status.Status.{Status}
use Rattle.command_answers.specs.Accepted.{IsAccepted}
use Rattle.command_answers.specs.PlanAnswers.{PlanNumbers, first_plan_of, verdict_status}
use Rattle.command_answers.specs.PlayedGames.{game_parts, played_on}
use Rattle.command_answers.specs.RightCodes.{IsRightCode}
use Rattle.improve_answers.specs.declared.commands.Improving.{Improving}
use Rattle.improve_answers.specs.declared.finding.Improvement.{Improvement}

-- the game that is asked for, on a graph
abbrev pub game_improved : Improving → GraphParts → GameParts
game_improved asked graph = game_parts graph asked.slots asked.weights

-- what `plan` is asked for with the same slots and weights, and without a budget
abbrev pub without_budget : Improving → Planning
without_budget asked = record { slots = asked.slots; budget = 0; weights = asked.weights }

-- the most positions that are expanded for the bound
abbrev pub rows_allowed : ℕ → ℕ
rows_allowed effort = min (1000 * effort) 150000

-- The numbers, the plan and the table answer a kernel with this graph. What is printed of the plan is its code, `plan_code plan`.
pub record IsImprovement (kernel : KernelParts) (graph : GraphParts) (asked : Improving) (numbers : PlanNumbers) (plan : PlanParts) (table : TableParts) : Type 0 where
  -- the plan is one of the game, and the printed cost is what it costs
  pub of_game : plan.game ≡ game_improved asked graph
  pub valid : IsPlan plan
  pub cost : numbers.cost ≡ plan.total
  -- the printed cost of the first plan is its cost, and the plan costs no more
  pub first : numbers.first ≡ (first_plan_of (game_improved asked graph)).total
  pub no_more : numbers.cost ≤ numbers.first
  -- without effort it is the first plan, there are no rows, and the bound is the floor of the start: the answer of `plan` without a budget
  pub effortless : asked.effort ≡ 0 → (plan ≡ first_plan_of (game_improved asked graph)) × (numbers.expanded ≡ 0)
      × (numbers.bound ≡ floor (game_of (game_improved asked graph)) (start (game_of (game_improved asked graph))))
  -- its code is right: it has the slots and the labels, gives the source's outputs on every list of values, makes loads and stores of exactly the
  -- weight that is printed, and plays a complete pebbling of this cost
  pub right : IsRightCode kernel (game_improved asked graph) (plan_code plan) numbers.cost
  -- the table is a valid one of the game, with the printed bound and as many rows as are said
  pub tabled : IsTableOf (game_of (game_improved asked graph)) table
  pub bound : table.bound ≡ numbers.bound
  pub expanded : length table.rows ≡ numbers.expanded
  pub few : numbers.expanded ≤ rows_allowed asked.effort
  -- no complete pebbling costs less than the bound, and the floor of the start is no more
  pub lowest : (moves : List Move) → IsComplete (game_of (game_improved asked graph)) (start (game_of (game_improved asked graph))) moves
      → numbers.bound ≤ moves_cost (game_of (game_improved asked graph)) moves
  pub floored : floor (game_of (game_improved asked graph)) (start (game_of (game_improved asked graph))) ≤ numbers.bound
  -- Optimal exactly if the bound is the cost, and Open exactly if it is below
  pub is_optimal : (numbers.optimal ≡ true) ↔ (numbers.bound ≡ numbers.cost)
  pub is_open : (numbers.optimal ≡ false) ↔ (numbers.bound < numbers.cost)

-- a valid table of the game that can be written, with at most so many rows, and a bound of at most the cost
pub record IsTableFor (game : GameParts) (most cost : ℕ) (table : TableParts) : Type 0 where
  pub tabled : IsTableOf (game_of game) table
  pub in_range : IsInRange table
  pub few : length table.rows ≤ most
  pub within : table.bound ≤ cost

-- What the program found for a game with an effort: the cost of the first plan, a plan of the game that costs no more, which is the first plan
-- without effort, and a valid table of the game that can be written, with at most as many rows as the effort allows, whose bound is at most the cost
-- and at least the floor of the start.
pub record IsFoundFor (g : GameParts) (effort : ℕ) (found : Improvement) : Type 0 where
  pub game : found.plan.game ≡ g
  pub first : found.first_cost ≡ (first_plan_of g).total
  pub no_more : found.plan.total ≤ found.first_cost
  pub still : effort ≡ 0 → found.plan ≡ first_plan_of g
  pub table : IsTableFor g (rows_allowed effort) found.plan.total found.table
  pub floored : floor (game_of g) (start (game_of g)) ≤ found.table.bound

-- its numbers
abbrev pub numbers_found : Improvement → PlanNumbers
numbers_found found = record {
  first = found.first_cost;
  cost = found.plan.total;
  bound = found.table.bound;
  expanded = length found.table.rows;
  optimal = found.table.bound == found.plan.total;
}

-- the values of the report's lines
abbrev pub facts_improved : GraphParts → Improving → PlanNumbers → Facts
facts_improved graph asked numbers = record {
  vertices = length graph.nodes;
  inputs = length graph.names;
  degree = degree (dag_of graph);
  slots = asked.slots;
  weights = asked.weights;
  first = numbers.first;
  cost = numbers.cost;
  bound = numbers.bound;
  expanded = numbers.expanded;
  budget = rows_allowed asked.effort;
  optimal = numbers.optimal;
}

-- the report, with the effort, and then the code of the plan
abbrev pub improved_text : List ℕ → GraphParts → Improving → PlanNumbers → PlanParts → List ℕ
improved_text title graph asked numbers plan = effort_report_text title asked.effort (facts_improved graph asked numbers) ++ code_text (plan_code plan)

-- The text is accepted, there are more slots than the degree of its graph, an improvement answers it, the status is its verdict, the report and
-- the code of its plan are printed, and the bytes of its table are written.
pub record IsImproved (asked : Improving) (text : List ℕ) (status : Status) (printed : List ℕ) (table : Option (List ℕ)) : Type 0 where
  pub kernel : KernelParts
  pub graph : GraphParts
  pub accepted : IsAccepted text kernel graph
  pub valid : IsGraph graph
  pub room : degree (dag_of graph) < asked.slots
  pub numbers : PlanNumbers
  pub plan : PlanParts
  pub certificate : TableParts
  pub answer : IsImprovement kernel graph asked numbers plan certificate
  pub ends : status ≡ verdict_status numbers.optimal
  pub report : printed ≡ improved_text kernel.title graph asked numbers plan
  pub bytes : List ℕ
  pub written : table ≡ Some bytes
  pub spelled : IsSpelling bytes certificate
