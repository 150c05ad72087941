-- What the search finds from the first plan of a game is an answer.
use Rattle.std.proofs.Common.{◌≡◌, ℕ, ◌≤◌, ◌<◌, ◌==◌, ◌↔◌, false, List, length, Some, Result, Ok, Err, inl, inr, refl, sym, ap, ◌∙◌, subst, arith}
use Rattle.std.specs.Prelude.{IfOk}
use Rattle.std.proofs.lemmas.Bool.{cases_eq, eqb-true, eq-eqb, ne_eqb, false≢true}
use Rattle.comp_graph.specs.Dags.{degree}
use Rattle.comp_graph.specs.Graphs.{GraphParts, IsGraph, dag_of}
use Rattle.comp_graph.specs.Games.{GameParts, IsGame, game_of}
use Rattle.comp_graph.proofs.GraphLaws.{IsDag-dag_of}
use Rattle.pebble_rules.specs.declared.moves.Move.{Move}
use Rattle.pebble_rules.specs.Rules.{start, IsComplete, cost as moves_cost}
use Rattle.kernel_ast.specs.KernelParts.{KernelParts}
use Rattle.normal_steps.specs.Plans.{PlanParts, IsPlan}
use Rattle.normal_steps.specs.Steps.{IsFinishing, total_cost}
use Rattle.normal_steps.proofs.Simulation.{plays_from_start_cost_no_more}
use Rattle.first_plan.specs.FirstPlan.{first_steps}
use Rattle.first_plan.proofs.Turns.{first_plan_finishes}
use Rattle.slot_alloc.specs.PlanCode.{plan_moves, plan_code}
use Rattle.slot_alloc.proofs.Right.{plan_code_is_right}
use Rattle.forced_bounds.proofs.Below.{floor_is_below_plays}
use Rattle.forced_bounds.proofs.Ends.{floor_of_finish}
use Rattle.potential_cert.specs.Table.{IsValid, TableParts}
use Rattle.potential_cert.specs.TableBytes.{IsSpelling}
use Rattle.potential_cert.proofs.Bound.{bound_is_below_plays}
use Rattle.search_laws.specs.SearchLaws.{IsNoWorse}
use Rattle.search_laws.proofs.Results.{plan_is_no_worse}
use Rattle.branch_bound.specs.Founds.{IsSearchedTable, IsFound}
use Rattle.branch_bound.specs.declared.searching.Found.{Found}
use Rattle.branch_bound.specs.declared.searching.Verdict.{Verdict}
use Rattle.branch_bound.specs.declared.searching.Verdict.TheVariants as verdicts
use Rattle.command_words.specs.declared.commands.Planning.{Planning}
use Rattle.command_answers.specs.declared.status.Status.{Status}
use Rattle.command_answers.specs.Accepted.{IsAccepted}
use Rattle.command_answers.specs.MadeAnswers.{is_optimal, numbers_of, printed_of}
use Rattle.command_answers.specs.PlanAnswers.{PlanNumbers, PrintedPlan, IsShown, IsAnswer, IsPlanned, first_plan_of, plan_asked, plan_text, verdict_status}
use Rattle.command_answers.specs.PlayedGames.{HasPebbling, game_asked, played_for}
use Rattle.command_answers.proofs.Accepting.{accepted_labels}
use Rattle.command_answers.proofs.FirstPlans.{first_plan_valid}
use Rattle.command_answers.proofs.RightCodes.{right_code}

-- ---- the plan that the search finds

-- the first plan finishes
pub first_finishes : (asked : Planning) (graph : GraphParts) → IsGraph graph → degree (dag_of graph) < asked.slots
    → IsFinishing (played_for asked graph) (start (played_for asked graph)) (first_steps (played_for asked graph))
first_finishes asked graph valid room = first_plan_finishes (played_for asked graph) (IsDag-dag_of graph valid) room

-- so does the plan that is found, which costs no more
pub found_no_worse : (asked : Planning) (graph : GraphParts) → IsGraph graph → degree (dag_of graph) < asked.slots
    → IsNoWorse (played_for asked graph) (first_steps (played_for asked graph)) asked.budget
found_no_worse asked graph valid room =
    plan_is_no_worse floor_of_finish (played_for asked graph) (IsDag-dag_of graph valid) (first_steps (played_for asked graph)) (first_finishes asked graph valid room) asked.budget

pub found_costs_no_more : (asked : Planning) (graph : GraphParts) → IsGraph graph → degree (dag_of graph) < asked.slots
    → (plan_asked asked graph).total ≤ (first_plan_of (game_asked asked graph)).total
found_costs_no_more asked graph valid room =
    let no_worse = found_no_worse asked graph valid room in
    let costs = no_worse.costs in
    let no_more = no_worse.no_more in
    omega (arith, costs, no_more)

pub found_plan_valid : (asked : Planning) (graph : GraphParts) → IsGame (game_asked asked graph) → IsPlan (plan_asked asked graph)
found_plan_valid asked graph game = record {
  finishing = (found_no_worse asked graph game.valid game.room).finishing;
  costs = refl;
  fits =
      let few = (first_plan_valid (game_asked asked graph) game).fits in
      let less = found_costs_no_more asked graph game.valid game.room in
      omega (arith, few, less);
}

-- it plays a complete pebbling of its cost
pub plan_is_possible : (asked : Planning) (graph : GraphParts) → IsGame (game_asked asked graph) → HasPebbling (game_asked asked graph) (plan_asked asked graph).total
plan_is_possible asked graph game =
    let plan = plan_asked asked graph in
    let right = plan_code_is_right plan game (found_plan_valid asked graph game) in
    record { moves = plan_moves plan; complete = right.complete; costs = right.costs }

-- ---- the answer

-- the numbers of the plan that is found, with a table of the search
abbrev pub numbers_with : Planning → GraphParts → TableParts → PlanNumbers
numbers_with asked graph table = record {
  first = (first_plan_of (game_asked asked graph)).total;
  cost = (plan_asked asked graph).total;
  bound = table.bound;
  expanded = length table.rows;
  optimal = table.bound == (plan_asked asked graph).total;
}

-- what is printed of it
abbrev pub printed_with : Planning → GraphParts → TableParts → PrintedPlan
printed_with asked graph table = record { numbers = numbers_with asked graph table; code = plan_code (plan_asked asked graph) }

-- two numbers differ exactly where the lower one is below the other
pub apart : (rows budget a b : ℕ) → a ≤ b → (a < b → rows ≡ budget) → ((a == b) ≡ false) ↔ ((rows ≡ budget) × (a < b))
apart rows budget a b most fills = (λ e. (fills (differs e), differs e), λ h. ne_eqb a b (λ same. absurd (omega (arith, h.1, same))))
  where
    differs : (a == b) ≡ false → a < b
    differs e = elim (cases_eq a b) [ inl same ↦ absurd (false≢true (sym e ∙ eq-eqb a b same)) | inr other ↦ omega arith ]

-- no complete pebbling costs less than the bound of a valid table
below_pebblings : (asked : Planning) (graph : GraphParts) (table : TableParts) → IsGraph graph → IsValid (played_for asked graph) table.rows table.bound
    → (moves : List Move) → IsComplete (played_for asked graph) (start (played_for asked graph)) moves → table.bound ≤ moves_cost (played_for asked graph) moves
below_pebblings asked graph table valid is moves complete =
    let g = played_for asked graph in
    let dag = IsDag-dag_of graph valid in
    let play = plays_from_start_cost_no_more g dag moves complete in
    let most = bound_is_below_plays floor_is_below_plays g dag table.rows table.bound is play.steps play.finishing in
    let costs = play.costs in
    omega (arith, most, costs)

-- the numbers of the plan that is found are those that are shown
pub found_shown : (asked : Planning) (graph : GraphParts) (table : TableParts) → IsGame (game_asked asked graph)
    → IsSearchedTable (played_for asked graph) (first_steps (played_for asked graph)) asked.budget (plan_asked asked graph).total table
    → IsShown graph asked (numbers_with asked graph table) table
found_shown asked graph table game is =
    let plan = plan_asked asked graph in
    record {
      first = refl;
      no_more = found_costs_no_more asked graph game.valid game.room;
      tabled = is.of_game;
      bound = refl;
      expanded = refl;
      rows = is.rows;
      cost = refl;
      support = is.support;
      few = is.few;
      is_optimal = (λ e. eqb-true table.bound plan.total e, λ e. eq-eqb table.bound plan.total e);
      is_open = apart (length table.rows) asked.budget table.bound plan.total is.support.within_cost is.fills;
      lowest = below_pebblings asked graph table game.valid is.of_game.valid;
    }

-- the plan that is found, with a table of the search, is an answer
pub found_answers : (asked : Planning) (graph : GraphParts) (text : List ℕ) (kernel : KernelParts) (table : TableParts) → IsGame (game_asked asked graph) → IsAccepted text kernel graph
    → IsSearchedTable (played_for asked graph) (first_steps (played_for asked graph)) asked.budget (plan_asked asked graph).total table
    → IsAnswer kernel graph asked (printed_with asked graph table) table
found_answers asked graph text kernel table game accepted is =
    let plan = plan_asked asked graph in
    record {
      shown = found_shown asked graph table game is;
      code = refl;
      right = right_code plan text kernel (plan_code_is_right plan game (found_plan_valid asked graph game)) accepted;
    }

-- ---- what the program found

-- the plan is the one that the definition finds
found_plan_is : (asked : Planning) (graph : GraphParts) (found : Found) → IsFound (first_plan_of (game_asked asked graph)) asked.budget found → IsPlan found.plan
    → found.plan ≡ plan_asked asked graph
found_plan_is asked graph found at is_plan = λ i. record { game = at.game i; steps = at.steps i; total = total i }
  where
    total : found.plan.total ≡ (plan_asked asked graph).total
    total = is_plan.costs ∙ (λ i. total_cost (game_of (at.game i)) (start (game_of (at.game i))) (at.steps i))

-- the verdict is the test of the bound
pub verdict_test : (verdict : Verdict) (a b : ℕ) → (verdict ≡ verdicts.Optimal) ↔ (a ≡ b) → is_optimal verdict ≡ (a == b)
verdict_test verdicts.Optimal a b same = sym (eq-eqb a b (same.0 refl))
verdict_test verdicts.Open a b same = sym (ne_eqb a b (λ e. let is = same.1 e in absurd (cc)))

-- so its numbers are those of that plan
numbers_is : (asked : Planning) (graph : GraphParts) (found : Found) → IsFound (first_plan_of (game_asked asked graph)) asked.budget found → found.plan ≡ plan_asked asked graph
    → numbers_of found ≡ numbers_with asked graph found.table
numbers_is asked graph found at plan = λ i. record {
  first = at.first_cost i;
  cost = (plan i).total;
  bound = found.table.bound;
  expanded = length found.table.rows;
  optimal = (verdict_test found.verdict found.table.bound found.plan.total at.is_optimal ∙ ap (λ (p : PlanParts). found.table.bound == p.total) plan) i;
}

-- What was found is the plan that the definition finds, with its numbers and with a table of the search.
pub record IsFoundFor (asked : Planning) (graph : GraphParts) (found : Found) : Type 0 where
  pub game : IsGame (game_asked asked graph)
  pub plan : found.plan ≡ plan_asked asked graph
  pub numbers : numbers_of found ≡ numbers_with asked graph found.table
  pub table : IsSearchedTable (played_for asked graph) (first_steps (played_for asked graph)) asked.budget (plan_asked asked graph).total found.table

-- it is so of a search from the first plan
pub found_for : (asked : Planning) (game : GameParts) (first : PlanParts) (found : Found) → game ≡ game_asked asked game.graph → IsGame game → first ≡ first_plan_of game
    → IsFound first asked.budget found → IsPlan found.plan → IsFoundFor asked game.graph found
found_for asked game first found played valid first_is at is_plan =
    let from : first ≡ first_plan_of (game_asked asked game.graph) = first_is ∙ ap first_plan_of played in
    let found_at : IsFound (first_plan_of (game_asked asked game.graph)) asked.budget found = subst (λ p. IsFound p asked.budget found) from at in
    let plan : found.plan ≡ plan_asked asked game.graph = found_plan_is asked game.graph found found_at is_plan in
    record {
      game = subst IsGame played valid;
      plan = plan;
      numbers = numbers_is asked game.graph found found_at plan;
      table = subst (λ (p : PlanParts). IsSearchedTable (played_for asked game.graph) (first_steps (played_for asked game.graph)) asked.budget p.total found.table) plan found_at.table;
    }

-- so its numbers and its table are shown
pub found_is_shown : (asked : Planning) (graph : GraphParts) (found : Found) → IsFoundFor asked graph found → IsShown graph asked (numbers_of found) found.table
found_is_shown asked graph found is = subst (λ n. IsShown graph asked n found.table) (sym is.numbers) (found_shown asked graph found.table is.game is.table)

-- facts of an answer, put together
pub of_answer : {A B : Type 0} (r : Result A B) (P Q R T : A → Type 0) → ((a : A) → P a → Q a → R a → T a) → IfOk r P → IfOk r Q → IfOk r R → IfOk r T
of_answer {A} {B} (Ok a) P Q R T put p q s = put a p q s
of_answer {A} {B} (Err e) P Q R T put p q s = tt

-- what is printed and written of a search from the first plan answers the text
pub found_is_planned : (asked : Planning) (game : GameParts) (first : PlanParts) (found : Found) (text : List ℕ) (kernel : KernelParts) (status : Status) (printed bytes : List ℕ)
    → game ≡ game_asked asked game.graph → IsGame game → first ≡ first_plan_of game → IsFound first asked.budget found → IsPlan found.plan → IsAccepted text kernel game.graph
    → status ≡ verdict_status (is_optimal found.verdict) → printed ≡ plan_text game.graph.title game.graph asked (printed_of found) → IsSpelling bytes found.table
    → IsPlanned asked text status printed (Some bytes)
found_is_planned asked game first found text kernel status printed bytes played valid first_is at is_plan accepted ends report spelled =
    let is = found_for asked game first found played valid first_is at is_plan in
    let same : printed_of found ≡ printed_with asked game.graph found.table = λ i. record { numbers = is.numbers i; code = plan_code (is.plan i) } in
    let answer = found_answers asked game.graph text kernel found.table is.game accepted is.table in
    record {
      kernel = kernel;
      graph = game.graph;
      accepted = accepted;
      valid = is.game.valid;
      room = is.game.room;
      plan = printed_of found;
      table_parts = found.table;
      answer = subst (λ p. IsAnswer kernel game.graph asked p found.table) (sym same) answer;
      ends = ends;
      report = report ∙ ap (λ t. plan_text t game.graph asked (printed_of found)) (accepted_labels accepted).title;
      bytes = bytes;
      written = refl;
      spelled = spelled;
    }
