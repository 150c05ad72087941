-- The tables of an improvement: that of the search from the plan that was found, and the one without rows, whose bound is the floor of the start.
use Rattle.std.proofs.Common.{◌≡◌, ◌≤◌, ◌<◌, ◌*◌, ◌+◌, ◌-◌, ◌^◌, ℕ, List, [], length, min, inl, refl, sym, ap, ◌∙◌, subst, arith}
use Rattle.comp_graph.specs.Games.{GameParts, IsGame, PebbleGame, game_of}
use Rattle.comp_graph.proofs.GraphLaws.{IsDag-dag_of}
use Rattle.forced_bounds.specs.Floor.{floor}
use Rattle.forced_bounds.proofs.Below.{floor_is_below_plays}
use Rattle.normal_steps.specs.Plans.{PlanParts, IsPlan}
use Rattle.pebble_rules.specs.Rules.{start}
use Rattle.comp_graph.specs.Lists.{IsIn}
use Rattle.normal_steps.specs.Steps.{IsFinishing, total_cost}
use Rattle.normal_steps.specs.declared.step.Step.{Step}
use Rattle.potential_cert.specs.GameTables.{IsTableOf}
use Rattle.potential_cert.specs.Order.{precedes}
use Rattle.potential_cert.specs.Table.{TableParts, IsRising, IsValid}
use Rattle.search_laws.specs.Search.{Search, begun}
use Rattle.search_laws.proofs.Turns.{search_ends}
use Rattle.branch_bound.specs.Founds.{IsFound}
use Rattle.branch_bound.specs.declared.searching.Found.{Found}
use Rattle.command_answers.specs.PlanAnswers.{first_plan_of}
use Rattle.improve_answers.specs.declared.finding.Improvement.{Improvement}
use Rattle.improve_answers.specs.Improved.{IsFoundFor, IsTableFor, rows_allowed}

-- the table without rows, with the numbers of a game and the floor of its start
pub floor_table_for : (game : GameParts) (most cost : ℕ) (table : TableParts) → IsGame game → table.vertices ≡ length game.graph.nodes → table.slots ≡ game.slots
    → table.load ≡ game.weights.load → table.store ≡ game.weights.store → table.rows ≡ [] → table.bound ≡ floor (game_of game) (start (game_of game))
    → floor (game_of game) (start (game_of game)) ≤ cost → IsTableFor game most cost table
floor_table_for game most cost table is vertices slots load store none bound low =
    let small = is.valid.small in
    let few = is.most in
    let room = is.room in
    let some_load = is.weights.load_some in
    let load_most = is.weights.load_most in
    let some_store = is.weights.store_some in
    let store_most = is.weights.store_most in
    let no_rows : length table.rows ≡ 0 = ap length none in
    record {
      tabled = record {
        vertices = vertices;
        slots = slots;
        load = load;
        store = store;
        rise = subst (λ rows. IsRising precedes rows) (sym none) tt;
        valid = subst (λ rows. IsValid (game_of game) rows table.bound) (sym none) (record {
          distinct = tt;
          sound = λ r i. absurd i;
          begins = inl (omega (arith, bound));
          steps = λ r i. absurd i;
          finishes = λ r i. absurd i;
        });
      };
      in_range = record {
        vertices = omega (arith, vertices, small);
        some_slots = omega (arith, slots, room);
        slots = omega (arith, slots, few);
        some_load = omega (arith, load, some_load);
        load = omega (arith, load, load_most);
        some_store = omega (arith, store, some_store);
        store = omega (arith, store, store_most);
        few = omega (arith, no_rows);
        red = λ r i. absurd (subst (IsIn r) none i);
        blue = λ r i. absurd (subst (IsIn r) none i);
      };
      few = omega (arith, no_rows);
      within = omega (arith, bound, low);
    }

-- the table of a search with at most so many rows
pub searched_table_for : (game : GameParts) (plan : PlanParts) (most : ℕ) (found : Found) → plan.game ≡ game → IsFound plan most found → IsTableFor game most found.plan.total found.table
searched_table_for game plan most found same is = record {
  tabled = subst (λ g. IsTableOf (game_of g) found.table) same is.table.of_game;
  in_range = is.in_range;
  few = is.table.few;
  within = is.table.support.within_cost;
}

-- the floor of the start is at most the cost of a plan
pub floor_below_plan : (game : GameParts) (plan : PlanParts) → IsGame game → IsPlan plan → plan.game ≡ game → floor (game_of game) (start (game_of game)) ≤ plan.total
floor_below_plan game plan is valid same =
    let g = game_of game in
    let low = floor_is_below_plays g (IsDag-dag_of game.graph is.valid) (start g) plan.steps (subst (λ h. IsFinishing (game_of h) (start (game_of h)) plan.steps) same valid.finishing) in
    let costs : plan.total ≡ total_cost g (start g) plan.steps = valid.costs ∙ ap (λ h. total_cost (game_of h) (start (game_of h)) plan.steps) same in
    omega (arith, low, costs)

-- ---- without effort

-- a search begins with its plan
pub begun_plan : (g : PebbleGame) (steps : List Step) → (begun g steps).plan ≡ steps
unfolding begun
begun_plan g steps = refl

-- a search without rows leaves the plan that it began with
pub plan_stays : (plan : PlanParts) (found : Found) → IsPlan plan → IsPlan found.plan → IsFound plan 0 found → found.plan ≡ plan
plan_stays plan found valid found_valid is =
    let steps : found.plan.steps ≡ plan.steps = is.steps ∙ ap (λ (t : Search). t.plan) (search_ends (game_of plan.game) (begun (game_of plan.game) plan.steps)) ∙ begun_plan (game_of plan.game) plan.steps in
    let total : found.plan.total ≡ plan.total = found_valid.costs ∙ (λ i. total_cost (game_of (is.game i)) (start (game_of (is.game i))) (steps i)) ∙ sym valid.costs in
    λ i. record { game = is.game i; steps = steps i; total = total i }

-- ---- what is found

-- without effort no rows are allowed
no_rows_allowed : (effort allowed : ℕ) → allowed ≡ rows_allowed effort → effort ≡ 0 → allowed ≡ 0
no_rows_allowed effort allowed is none = is ∙ ap rows_allowed none

-- what was found from the first plan of a game, by a plan that costs no more and a search from it
pub found_is_for : (game : GameParts) (effort first_cost allowed : ℕ) (first plan : PlanParts) (found : Found) (table : TableParts) → IsGame game → first ≡ first_plan_of game
    → first_cost ≡ first.total → plan.game ≡ first.game → IsPlan plan → plan.total ≤ first.total → (effort ≡ 0 → plan ≡ first) → allowed ≡ rows_allowed effort
    → IsFound plan allowed found → IsPlan found.plan
    → ((most cost : ℕ) → floor (game_of game) (start (game_of game)) ≤ cost → IsTableFor game most cost found.table → IsTableFor game most cost table)
    → floor (game_of game) (start (game_of game)) ≤ table.bound → IsFoundFor game effort (record { first_cost = first_cost; plan = found.plan; table = table })
found_is_for game effort first_cost allowed first plan found table is first_is costs same valid less still allowed_is searched found_valid better floored =
    let of_game : plan.game ≡ game = same ∙ ap (λ (p : PlanParts). p.game) first_is in
    let no_more = searched.no_more in
    let made : IsTableFor game (rows_allowed effort) found.plan.total found.table =
    subst (λ n. IsTableFor game n found.plan.total found.table) allowed_is (searched_table_for game plan allowed found of_game searched) in
    record {
      game = searched.game ∙ of_game;
      first = costs ∙ ap (λ (p : PlanParts). p.total) first_is;
      no_more = omega (arith, no_more, less, costs);
      still = λ none. plan_stays plan found valid found_valid (subst (λ n. IsFound plan n found) (no_rows_allowed effort allowed allowed_is none) searched) ∙ still none ∙ first_is;
      table = better (rows_allowed effort) found.plan.total (floor_below_plan game found.plan is found_valid (searched.game ∙ of_game)) made;
      floored = floored;
    }
