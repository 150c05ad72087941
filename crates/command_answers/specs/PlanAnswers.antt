-- What `plan` answers to an accepted kernel with enough slots: the numbers that it prints, the verdict and the code, and when they answer
-- a kernel, a number of slots, a budget of positions and the weights of a load and a store. This is the promise of the program for a kernel
-- that it accepts. What is shown of the numbers and of the table, without the code, is a record of its own, which `trial` promises too.
use Rattle.std.specs.Prelude.{◌≡◌, ℕ, ◌≤◌, ◌<◌, ◌↔◌, Bool, true, false, List, ◌++◌, length, Option, Some}
use Rattle.comp_graph.specs.Dags.{degree}
use Rattle.comp_graph.specs.Graphs.{GraphParts, IsGraph, dag_of}
use Rattle.comp_graph.specs.Games.{GameParts, game_of}
use Rattle.pebble_rules.specs.declared.moves.Move.{Move}
use Rattle.pebble_rules.specs.Rules.{start, IsComplete, cost as moves_cost}
use Rattle.normal_steps.specs.Plans.{PlanParts}
use Rattle.normal_steps.specs.Steps.{total_cost}
use Rattle.first_plan.specs.FirstPlan.{first_steps}
use Rattle.search_laws.specs.Search.{Search, searched, rows_of}
use Rattle.slot_alloc.specs.PlanCode.{plan_code}
use Rattle.scratch_machine.specs.Codes.{CodeParts}
use Rattle.kernel_ast.specs.KernelParts.{KernelParts}
use Rattle.plan_report.specs.declared.facts.Facts.{Facts}
use Rattle.plan_report.specs.ReportText.{report_text}
use Rattle.potential_cert.specs.declared.tables.Row.{Row}
use Rattle.potential_cert.specs.GameTables.{IsTableOf}
use Rattle.potential_cert.specs.Table.{IsSupport, TableParts}
use Rattle.potential_cert.specs.TableBytes.{IsSpelling}
use Rattle.potential_cert.specs.TableLaws.{HaveSameMembers}
use Rattle.scratch_code.specs.CodeText.{code_text}
use Rattle.command_words.specs.declared.commands.Planning.{Planning}
use Rattle.command_answers.specs.declared.status.Status.{Status}
use Rattle.command_answers.specs.declared.status.Status.TheVariants.{Optimal, Open}
use Rattle.command_answers.specs.Accepted.{IsAccepted}
use Rattle.command_answers.specs.PlayedGames.{game_asked, played_for}
use Rattle.command_answers.specs.RightCodes.{IsRightCode}

-- the printed numbers: the first plan's cost, the cost of the plan that was found and the lower bound, all by the weights of loads and
-- stores, and the number of expanded positions; and whether the verdict is Optimal
pub record PlanNumbers : Type 0 where
  pub first : ℕ
  pub cost : ℕ
  pub bound : ℕ
  pub expanded : ℕ
  pub optimal : Bool

-- the numbers of a plan, and its code
pub record PrintedPlan : Type 0 where
  pub numbers : PlanNumbers
  pub code : CodeParts

-- the first plan of a game
abbrev pub first_plan_of : GameParts → PlanParts
first_plan_of game = record { game = game; steps = first_steps (game_of game); total = total_cost (game_of game) (start (game_of game)) (first_steps (game_of game)) }

-- the search that is asked for: of the game on the graph, from its first plan, with the budget of positions
abbrev pub search_asked : Planning → GraphParts → Search
search_asked asked graph = searched (played_for asked graph) (first_steps (played_for asked graph)) asked.budget

-- the plan that it finds, which is the first plan where it finds none that costs less
abbrev pub plan_asked : Planning → GraphParts → PlanParts
plan_asked asked graph = record {
  game = game_asked asked graph;
  steps = (search_asked asked graph).plan;
  total = total_cost (played_for asked graph) (start (played_for asked graph)) (search_asked asked graph).plan;
}

-- the rows that it makes: the expanded positions with their costs
abbrev pub rows_asked : Planning → GraphParts → List Row
rows_asked asked graph = rows_of (search_asked asked graph).entries

-- The numbers and the table are those of the plan that the search finds, on a graph with the slots, the budget of positions and
-- the weights that are asked for.
pub record IsShown (graph : GraphParts) (asked : Planning) (numbers : PlanNumbers) (table : TableParts) : Type 0 where
  -- the printed cost of the first plan is its cost, and the answered plan costs no more
  pub first : numbers.first ≡ (first_plan_of (game_asked asked graph)).total
  pub no_more : numbers.cost ≤ numbers.first
  -- the table has the numbers of the graph, the slots and the weights, and its rows strictly rise; it has the bound, with which it is valid,
  -- and as many rows as positions were expanded
  pub tabled : IsTableOf (played_for asked graph) table
  pub bound : table.bound ≡ numbers.bound
  pub expanded : length table.rows ≡ numbers.expanded
  -- the rows with their costs are those of the search, and the cost is that of the plan that it finds
  pub rows : HaveSameMembers (rows_asked asked graph) table.rows
  pub cost : numbers.cost ≡ (plan_asked asked graph).total
  -- the bound is the support of the rows and the cost
  pub support : IsSupport (played_for asked graph) table.rows numbers.cost numbers.bound
  -- no more positions than the budget were expanded; Optimal exactly where the bound is the cost; else as many positions as the budget
  -- were expanded, and the bound is below the cost
  pub few : numbers.expanded ≤ asked.budget
  pub is_optimal : (numbers.optimal ≡ true) ↔ (numbers.bound ≡ numbers.cost)
  pub is_open : (numbers.optimal ≡ false) ↔ ((numbers.expanded ≡ asked.budget) × (numbers.bound < numbers.cost))
  -- no complete pebbling costs less than the bound, whatever it computes again, drops or moves in vain
  pub lowest : (moves : List Move) → IsComplete (played_for asked graph) (start (played_for asked graph)) moves → numbers.bound ≤ moves_cost (played_for asked graph) moves

-- The plan and its table answer a kernel with this graph, with the slots, the budget of positions and the weights that are
-- asked for.
pub record IsAnswer (kernel : KernelParts) (graph : GraphParts) (asked : Planning) (plan : PrintedPlan) (table : TableParts) : Type 0 where
  -- the numbers and the table are those of the plan that the search finds, and the code is that of its steps
  pub shown : IsShown graph asked plan.numbers table
  pub code : plan.code ≡ plan_code (plan_asked asked graph)
  -- it is right for the kernel and the game, with loads and stores that weigh exactly the cost
  pub right : IsRightCode kernel (game_asked asked graph) plan.code plan.numbers.cost

-- the values of the report's lines
abbrev pub facts_of : GraphParts → Planning → PlanNumbers → Facts
facts_of graph asked numbers = record {
  vertices = length graph.nodes;
  inputs = length graph.names;
  degree = degree (dag_of graph);
  slots = asked.slots;
  weights = (game_asked asked graph).weights;
  first = numbers.first;
  cost = numbers.cost;
  bound = numbers.bound;
  expanded = numbers.expanded;
  budget = asked.budget;
  optimal = numbers.optimal;
}

-- the report and then the code
abbrev pub plan_text : List ℕ → GraphParts → Planning → PrintedPlan → List ℕ
plan_text title graph asked plan = report_text title (facts_of graph asked plan.numbers) ++ code_text plan.code

-- the status of a verdict
abbrev pub verdict_status : Bool → Status
verdict_status true = Optimal
verdict_status false = Open

-- The text is accepted, there are more slots than the degree of its graph, a plan with a table answers it, the status is its verdict, the
-- report and the code of that plan are printed, and the bytes of that table are written.
pub record IsPlanned (asked : Planning) (text : List ℕ) (status : Status) (printed : List ℕ) (table : Option (List ℕ)) : Type 0 where
  pub kernel : KernelParts
  pub graph : GraphParts
  pub accepted : IsAccepted text kernel graph
  pub valid : IsGraph graph
  pub room : degree (dag_of graph) < asked.slots
  pub plan : PrintedPlan
  pub table_parts : TableParts
  pub answer : IsAnswer kernel graph asked plan table_parts
  pub ends : status ≡ verdict_status plan.numbers.optimal
  pub report : printed ≡ plan_text kernel.title graph asked plan
  pub bytes : List ℕ
  pub written : table ≡ Some bytes
  pub spelled : IsSpelling bytes table_parts
