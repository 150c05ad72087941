-- What the search that names covering rows finds from the first plan of a game is an answer.
use Rattle.std.proofs.Common.{◌≡◌, ℕ, ◌≤◌, ◌<◌, ◌==◌, List, length, Some, refl, sym, ap, ◌∙◌, subst, arith}
use Rattle.std.proofs.lemmas.Bool.{eqb-true, eq-eqb}
use Rattle.comp_graph.specs.Dags.{degree}
use Rattle.comp_graph.specs.Games.{GameParts, IsGame, game_of}
use Rattle.comp_graph.specs.Graphs.{GraphParts, IsGraph, dag_of}
use Rattle.comp_graph.proofs.GraphLaws.{IsDag-dag_of}
use Rattle.cover_cert.specs.CoverAnswer.{AreCoverRows, IsCoverProved}
use Rattle.cover_cert.specs.CoverBytes.{IsCoverSpelling}
use Rattle.cover_cert.specs.CoverFounds.{IsCoverFound}
use Rattle.cover_cert.specs.declared.searching.CoverFound.{CoverFound}
use Rattle.cover_cert.specs.CoverSearchLaws.{IsCoverNoWorse}
use Rattle.cover_cert.specs.CoverTable.{CoverTableParts, IsCoverSupport}
use Rattle.cover_cert.proofs.Answered.{cover_answers_are_proved}
use Rattle.cover_cert.proofs.Bound.{cover_bound_is_below_pebblings}
use Rattle.cover_cert.proofs.Results.{cover_plan_is_no_worse}
use Rattle.first_plan.specs.FirstPlan.{first_steps}
use Rattle.forced_bounds.proofs.Below.{floor_is_below_plays}
use Rattle.forced_bounds.proofs.Ends.{floor_of_finish}
use Rattle.kernel_ast.specs.KernelParts.{KernelParts}
use Rattle.normal_steps.specs.Plans.{IsPlan, PlanParts}
use Rattle.normal_steps.specs.Steps.{total_cost}
use Rattle.normal_steps.proofs.PlanMoves.{plays_are_pebblings}
use Rattle.normal_steps.proofs.Simulation.{plays_cost_no_more}
use Rattle.pebble_rules.specs.Rules.{start}
use Rattle.slot_alloc.specs.PlanCode.{plan_code}
use Rattle.slot_alloc.proofs.Right.{plan_code_is_right}
use Rattle.command_words.specs.declared.commands.Covering.{Covering}
use Rattle.command_answers.specs.declared.status.Status.{Status}
use Rattle.command_answers.specs.Accepted.{IsAccepted}
use Rattle.command_answers.specs.CoverAnswers.{IsCoverShown, IsCovered, cover_asked, cover_plan_asked, planning_covered}
use Rattle.command_answers.specs.MadeAnswers.{is_optimal}
use Rattle.command_answers.specs.MadeCovers.{cover_printed_of}
use Rattle.command_answers.specs.PlanAnswers.{PlanNumbers, PrintedPlan, first_plan_of, plan_text, verdict_status}
use Rattle.command_answers.specs.PlayedGames.{game_asked, played_for}
use Rattle.command_answers.specs.RightCodes.{IsRightCode}
use Rattle.command_answers.proofs.Accepting.{accepted_labels}
use Rattle.command_answers.proofs.FirstPlans.{first_plan_valid}
use Rattle.command_answers.proofs.FoundPlans.{apart, first_finishes, verdict_test}
use Rattle.command_answers.proofs.RightCodes.{right_code}

-- ---- the plan that the search finds

-- it finishes and costs no more than the first plan
pub cover_no_worse : (asked : Covering) (graph : GraphParts) → IsGraph graph → degree (dag_of graph) < asked.slots
    → IsCoverNoWorse (played_for (planning_covered asked) graph) (first_steps (played_for (planning_covered asked) graph)) asked.budget
cover_no_worse asked graph valid room =
    let g = played_for (planning_covered asked) graph in
    cover_plan_is_no_worse floor_of_finish g (IsDag-dag_of graph valid) (first_steps g) (first_finishes (planning_covered asked) graph valid room) asked.budget

pub cover_costs_no_more : (asked : Covering) (graph : GraphParts) → IsGraph graph → degree (dag_of graph) < asked.slots
    → (cover_plan_asked asked graph).total ≤ (first_plan_of (game_asked (planning_covered asked) graph)).total
cover_costs_no_more asked graph valid room =
    let no_worse = cover_no_worse asked graph valid room in
    let costs = no_worse.costs in
    let no_more = no_worse.no_more in
    omega (arith, costs, no_more)

pub cover_plan_valid : (asked : Covering) (graph : GraphParts) → IsGame (game_asked (planning_covered asked) graph) → IsPlan (cover_plan_asked asked graph)
cover_plan_valid asked graph game = record {
  finishing = (cover_no_worse asked graph game.valid game.room).finishing;
  costs = refl;
  fits =
      let few = (first_plan_valid (game_asked (planning_covered asked) graph) game).fits in
      let less = cover_costs_no_more asked graph game.valid game.room in
      omega (arith, few, less);
}

-- its code is right
pub cover_code_is_right : (asked : Covering) (graph : GraphParts) (text : List ℕ) (kernel : KernelParts) → IsGame (game_asked (planning_covered asked) graph) → IsAccepted text kernel graph
    → IsRightCode kernel (game_asked (planning_covered asked) graph) (plan_code (cover_plan_asked asked graph)) (cover_plan_asked asked graph).total
cover_code_is_right asked graph text kernel game accepted =
    right_code (cover_plan_asked asked graph) text kernel (plan_code_is_right (cover_plan_asked asked graph) game (cover_plan_valid asked graph game)) accepted

-- ---- the table

-- The table has the numbers of the game, the rows of the search with their names, and the bound that they and the cost of the plan support.
pub record IsTableOfSearch (asked : Covering) (graph : GraphParts) (table : CoverTableParts) : Type 0 where
  pub vertices : table.vertices ≡ (played_for (planning_covered asked) graph).dag.count
  pub slots : table.slots ≡ asked.slots
  pub load : table.load ≡ 1
  pub store : table.store ≡ 1
  pub rows : AreCoverRows (played_for (planning_covered asked) graph) (first_steps (played_for (planning_covered asked) graph)) asked.budget table.rows
  pub support : IsCoverSupport (played_for (planning_covered asked) graph) table.rows (cover_plan_asked asked graph).total table.bound

-- what the laws of the search say of it
pub table_is_proved : (asked : Covering) (graph : GraphParts) (table : CoverTableParts) → IsGraph graph → degree (dag_of graph) < asked.slots → IsTableOfSearch asked graph table
    → IsCoverProved (played_for (planning_covered asked) graph) (first_steps (played_for (planning_covered asked) graph)) asked.budget (cover_asked asked graph).search.plan table.rows table.bound
table_is_proved asked graph table valid room is =
    let g = played_for (planning_covered asked) graph in
    cover_answers_are_proved floor_of_finish (cover_bound_is_below_pebblings floor_is_below_plays plays_cost_no_more plays_are_pebblings) g (IsDag-dag_of graph valid) (first_steps g)
    (first_finishes (planning_covered asked) graph valid room) asked.budget (cover_asked asked graph).search.plan table.rows table.bound
    (record { plan_is = refl; rows_are = is.rows; support = is.support })

-- the numbers of the plan that is found, with a table of the search
abbrev pub cover_numbers_with : Covering → GraphParts → CoverTableParts → PlanNumbers
cover_numbers_with asked graph table = record {
  first = (first_plan_of (game_asked (planning_covered asked) graph)).total;
  cost = (cover_plan_asked asked graph).total;
  bound = table.bound;
  expanded = length table.rows;
  optimal = table.bound == (cover_plan_asked asked graph).total;
}

-- what is printed of it
abbrev pub cover_printed_with : Covering → GraphParts → CoverTableParts → PrintedPlan
cover_printed_with asked graph table = record { numbers = cover_numbers_with asked graph table; code = plan_code (cover_plan_asked asked graph) }

-- they are shown
pub cover_shown : (asked : Covering) (graph : GraphParts) (table : CoverTableParts) → IsGraph graph → degree (dag_of graph) < asked.slots → IsTableOfSearch asked graph table
    → IsCoverShown graph asked (cover_numbers_with asked graph table) table
cover_shown asked graph table valid room is =
    let proved = table_is_proved asked graph table valid room is in
    let total = (cover_plan_asked asked graph).total in
    record {
      first = refl;
      no_more = cover_costs_no_more asked graph valid room;
      tabled = record { vertices = is.vertices; slots = is.slots; load = is.load; store = is.store; holds = proved.valid };
      bound = refl;
      expanded = refl;
      rows = is.rows;
      cost = refl;
      support = is.support;
      few = proved.few;
      is_optimal = (λ e. eqb-true table.bound total e, λ e. eq-eqb table.bound total e);
      is_open = apart (length table.rows) asked.budget table.bound total is.support.within_cost proved.open_fills;
      lowest = proved.below;
    }

-- ---- the answer

-- what is printed and written of a table of the search answers the text
pub table_answers : (asked : Covering) (text : List ℕ) (kernel : KernelParts) (graph : GraphParts) (plan : PrintedPlan) (table : CoverTableParts) (status : Status) (printed bytes : List ℕ)
    → IsGame (game_asked (planning_covered asked) graph) → IsAccepted text kernel graph → plan ≡ cover_printed_with asked graph table → IsTableOfSearch asked graph table
    → status ≡ verdict_status plan.numbers.optimal → printed ≡ plan_text graph.title graph (planning_covered asked) plan → IsCoverSpelling bytes table
    → IsCovered asked text status printed (Some bytes)
table_answers asked text kernel graph plan table status printed bytes game accepted same is ends report spelled =
    let numbers = ap (λ (p : PrintedPlan). p.numbers) same in
    record {
      kernel = kernel;
      graph = graph;
      accepted = accepted;
      valid = game.valid;
      room = game.room;
      plan = plan;
      table_parts = table;
      shown = subst (λ n. IsCoverShown graph asked n table) (sym numbers) (cover_shown asked graph table game.valid game.room is);
      code = ap (λ (p : PrintedPlan). p.code) same;
      right = subst (λ (p : PrintedPlan). IsRightCode kernel (game_asked (planning_covered asked) graph) p.code p.numbers.cost) (sym same) (cover_code_is_right asked graph text kernel game accepted);
      ends = ends;
      report = report ∙ ap (λ t. plan_text t graph (planning_covered asked) plan) (accepted_labels accepted).title;
      bytes = bytes;
      written = refl;
      spelled = spelled;
    }

-- ---- what the program found

-- the plan is the one that the definition finds
found_plan_is : (asked : Covering) (graph : GraphParts) (found : CoverFound) → IsCoverFound (first_plan_of (game_asked (planning_covered asked) graph)) asked.budget found → IsPlan found.plan
    → found.plan ≡ cover_plan_asked asked graph
found_plan_is asked graph found at is_plan = λ i. record { game = at.game i; steps = at.steps i; total = total i }
  where
    total : found.plan.total ≡ (cover_plan_asked asked graph).total
    total = is_plan.costs ∙ (λ i. total_cost (game_of (at.game i)) (start (game_of (at.game i))) (at.steps i))

-- so what is printed of it is what is printed of that plan
found_printed_is : (asked : Covering) (graph : GraphParts) (found : CoverFound) → IsCoverFound (first_plan_of (game_asked (planning_covered asked) graph)) asked.budget found
    → found.plan ≡ cover_plan_asked asked graph → cover_printed_of found ≡ cover_printed_with asked graph found.table
found_printed_is asked graph found at plan = λ i. record {
  numbers = record {
    first = at.first_cost i;
    cost = (plan i).total;
    bound = found.table.bound;
    expanded = length found.table.rows;
    optimal = (verdict_test found.verdict found.table.bound found.plan.total at.is_optimal ∙ ap (λ (p : PlanParts). found.table.bound == p.total) plan) i;
  };
  code = plan_code (plan i);
}

-- and the table is one of the search
found_table_is : (asked : Covering) (graph : GraphParts) (found : CoverFound) → IsCoverFound (first_plan_of (game_asked (planning_covered asked) graph)) asked.budget found
    → found.plan ≡ cover_plan_asked asked graph → IsTableOfSearch asked graph found.table
found_table_is asked graph found at plan = record {
  vertices = at.table.of_game.vertices;
  slots = at.table.of_game.slots;
  load = at.table.of_game.load;
  store = at.table.of_game.store;
  rows = at.table.rows;
  support = subst (λ (p : PlanParts). IsCoverSupport (played_for (planning_covered asked) graph) found.table.rows p.total found.table.bound) plan at.table.support;
}

-- what is printed and written of a search from the first plan answers the text
pub found_is_covered : (asked : Covering) (game : GameParts) (first : PlanParts) (found : CoverFound) (text : List ℕ) (kernel : KernelParts) (status : Status) (printed bytes : List ℕ)
    → game ≡ game_asked (planning_covered asked) game.graph → IsGame game → first ≡ first_plan_of game → IsCoverFound first asked.budget found → IsPlan found.plan
    → IsAccepted text kernel game.graph → status ≡ verdict_status (is_optimal found.verdict)
    → printed ≡ plan_text game.graph.title game.graph (planning_covered asked) (cover_printed_of found) → IsCoverSpelling bytes found.table → IsCovered asked text status printed (Some bytes)
found_is_covered asked game first found text kernel status printed bytes played valid first_is at is_plan accepted ends report spelled =
    let from : first ≡ first_plan_of (game_asked (planning_covered asked) game.graph) = first_is ∙ ap first_plan_of played in
    let found_at : IsCoverFound (first_plan_of (game_asked (planning_covered asked) game.graph)) asked.budget found = subst (λ p. IsCoverFound p asked.budget found) from at in
    let plan = found_plan_is asked game.graph found found_at is_plan in
    table_answers asked text kernel game.graph (cover_printed_of found) found.table status printed bytes (subst IsGame played valid) accepted (found_printed_is asked game.graph found found_at plan)
    (found_table_is asked game.graph found found_at plan) ends report spelled
