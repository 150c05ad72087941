-- What a search that is done answers.
use Rattle.std.proofs.Common.{◌≡◌, ℕ, ◌*◌, ◌-◌, ◌≤◌, ◌<◌, ◌≢◌, List, [], map, length, ◌↔◌, sym, ap, ◌∙◌, subst, arith}
use Rattle.std.specs.Prelude.{◌^◌}
use Rattle.comp_graph.specs.Vertices.{size}
use Rattle.comp_graph.specs.Dags.{IsDag}
use Rattle.comp_graph.specs.Games.{PebbleGame, GameParts, IsGame, game_of}
use Rattle.comp_graph.proofs.GraphLaws.{IsDag-dag_of}
use Rattle.pebble_rules.specs.Rules.{start}
use Rattle.normal_steps.specs.Plans.{IsPlan, PlanParts}
use Rattle.normal_steps.specs.Sound.{IsSound}
use Rattle.normal_steps.specs.Steps.{IsFinishing, total_cost}
use Rattle.normal_steps.specs.declared.step.Step.{Step}
use Rattle.comp_graph.specs.Lists.{IsIn}
use Rattle.forced_bounds.specs.FloorLaws.{FloorOfFinish}
use Rattle.potential_cert.specs.declared.tables.Row.{Row}
use Rattle.potential_cert.specs.Order.{precedes}
use Rattle.potential_cert.specs.Table.{IsRising}
use Rattle.search_laws.specs.Search.{begun}
use Rattle.search_laws.proofs.Lists.{in_map}
use Rattle.search_laws.specs.Packing.{Store, Best}
use Rattle.search_laws.proofs.Bounds.{row_places}
use Rattle.branch_bound.specs.Frontiers.{HasEnded}
use Rattle.branch_bound.specs.declared.searching.Verdict.TheVariants.{Optimal, Open}
use Rattle.branch_bound.proofs.RowLaws.{same_rows}
use Rattle.std.proofs.lemmas.List.Sorted.{IsPermutation-map}
use Rattle.cover_cert.specs.declared.making.Made.{Made}
use Rattle.cover_cert.specs.declared.searching.CoverFound.{CoverFound}
use Rattle.cover_cert.specs.CoverAnswer.{AreCoverRows}
use Rattle.cover_cert.specs.CoverFounds.{IsCoverFound, IsCoverSearchedTable}
use Rattle.cover_cert.specs.CoverMaking.{full_row, made_row, made_rows, naming_of}
use Rattle.cover_cert.specs.CoverNumbers.{AreKnown, AreNumbered, CanBeOrdered}
use Rattle.cover_cert.specs.CoverSearch.{CoverSearch, cover_searched, numbered, rows_covered, with_names}
use Rattle.cover_cert.specs.CoverSearchLaws.{IsCoverNoWorse}
use Rattle.cover_cert.specs.CoverSupport.{cover_support}
use Rattle.cover_cert.specs.CoverTable.{CoverRowParts, CoverTableParts, IsCoverSupport, IsCoverTable, plain_rows}
use Rattle.cover_cert.specs.CoverTurns.{IsCoverDone}
use Rattle.cover_cert.proofs.CoverRanges.{cover_in_range}
use Rattle.cover_cert.proofs.MadeLists.{map_each, map_map}
use Rattle.cover_cert.proofs.Namings.{naming_in}
use Rattle.cover_cert.proofs.Results.{cover_enough_budget_is_optimal, cover_few_rows_are_optimal, cover_open_fills_budget, cover_plan_is_no_worse, cover_search_has, cover_searched_is_valid, row_sound}
use Rattle.cover_cert.proofs.Supported.{cover_support_is_found}
use Rattle.cover_cert.proofs.Turns.{HasCoverSearched}

module _ (ends : FloorOfFinish) (game : GameParts) (is : IsGame game) (first : List Step) (finishing : IsFinishing (game_of game) (start (game_of game)) first) (budget : ℕ) (s : Store) (b : Best) (made : List Made)
    (done : IsCoverDone (game_of game) first budget s b made) where
  abbrev g : PebbleGame
  g = game_of game

  dag : IsDag g.dag
  dag = IsDag-dag_of game.graph is.valid

  abbrev searched : CoverSearch
  searched = cover_searched g first budget

  no_worse : IsCoverNoWorse g first budget
  no_worse = cover_plan_is_no_worse ends g dag first finishing budget

  -- the state stands for what the search gives
  pub cover_ended : HasEnded g first s b searched.search
  cover_ended = record {
    plays = done.plays;
    packs = done.packs;
    finishing = no_worse.finishing;
    no_more = let costs = no_worse.costs in let no_more = no_worse.no_more in omega arith;
  }

  has : HasCoverSearched g (total_cost g (start g) first) budget (record { search = begun g first; names = [] }) searched
  has = cover_search_has ends g dag first finishing budget

  -- the rows that were made are those of the search
  row_made : (r : Row) → (IsIn r (rows_covered g first budget) → IsIn r (made_rows made)) × (IsIn r (made_rows made) → IsIn r (rows_covered g first budget))
  row_made r =
      let places = row_places g first s b done.plays searched.search done.packs r in
      (λ i. done.rows.all r (places.0 i), λ i. places.1 (done.rows.places r i))

  made_sound : (m : Made) → IsIn m made → IsSound g m.position
  made_sound m i = row_sound g dag (total_cost g (start g) first) searched has.stands (made_row m) ((row_made (made_row m)).1 (in_map made_row m made i))

  made_known : AreKnown (made_rows made) made
  made_known m i n j =
      let named = subst (IsIn (naming_of m.position n)) (done.names m i) (in_map (naming_of m.position) n m.names.items j) in
      let good = has.stands.named.good (naming_of m.position n) (naming_in searched.names m.position (naming_of m.position n) named).0 in
      (good.by, (row_made good.by).0 good.is_by, good.by_at)

  pub can_be_ordered : length made ≤ 4294967295 → CanBeOrdered made
  can_be_ordered few = record {
    apart = done.apart;
    red = λ m i. record { below = λ v h. let less = (made_sound m i).red_below v h in let small = is.valid.small in omega arith };
    blue = λ m i. record { below = λ v h. let less = (made_sound m i).blue_below v h in let small = is.valid.small in omega arith };
    few = few;
    known = made_known;
  }

  module _ (rows : List CoverRowParts) (num : AreNumbered made rows) where
    abbrev sorted : List Row
    sorted = made_rows num.sorted

    same_names : (m : Made) → IsIn m num.sorted → with_names sorted searched.names (made_row m) ≡ full_row sorted m
    same_names m i =
        let old = (same_rows made num.sorted num.moved m).1 i in
        ap (λ ns. record { position = m.position; cost = m.cost; names = ns })
        (ap (map (numbered sorted)) (sym (done.names m old)) ∙ map_map (numbered sorted) (naming_of m.position) m.names.items)

    pub numbered_rows : AreCoverRows g first budget rows
    numbered_rows = record {
      sorted = sorted;
      rise = num.rise;
      members = λ r.
          let moved = same_rows (made_rows made) sorted (IsPermutation-map made_row made num.sorted num.moved) r in
          (λ i. moved.0 ((row_made r).0 i), λ i. (row_made r).1 (moved.1 i));
      named = num.full ∙ sym (map_map (with_names sorted searched.names) made_row num.sorted ∙ map_each (λ m. with_names sorted searched.names (made_row m)) (full_row sorted) num.sorted same_names);
    }

    -- some bound makes them a table, so they rise and are sound
    some_table : IsCoverTable g rows (cover_support g rows searched.search.cost)
    some_table = cover_searched_is_valid ends g dag first finishing budget rows numbered_rows (cover_support g rows searched.search.cost) (cover_support_is_found g rows searched.search.cost)

    pub numbered_rise : IsRising precedes (plain_rows rows)
    numbered_rise = some_table.rise

    pub numbered_sound : (r : CoverRowParts) → IsIn r rows → IsSound g r.position
    numbered_sound = some_table.sound

  pub cover_table_is : (table : CoverTableParts) → table.vertices ≡ length game.graph.nodes → table.slots ≡ game.slots → table.load ≡ game.weights.load → table.store ≡ game.weights.store
      → AreCoverRows g first budget table.rows → IsCoverSupport g table.rows b.cost table.bound → IsCoverSearchedTable g first budget b.cost table
  cover_table_is table vertices slots load store rows support =
      let cost : searched.search.cost ≡ b.cost = done.packs.cost in
      let there = subst (λ cost. IsCoverSupport g table.rows cost table.bound) (sym cost) support in
      record {
        of_game = record {
          vertices = vertices;
          slots = slots;
          load = load;
          store = store;
          holds = cover_searched_is_valid ends g dag first finishing budget table.rows rows table.bound there;
        };
        rows = rows;
        few = (cover_few_rows_are_optimal ends g dag first finishing budget table.rows rows table.bound there).few;
        support = support;
        fills = λ less. cover_open_fills_budget ends g dag first finishing budget table.rows rows table.bound there (omega arith);
      }

  -- a plan of the search's steps costs what the search says
  plan_costs : (plan : PlanParts) → IsPlan plan → plan.game ≡ game → plan.steps ≡ searched.search.plan → plan.total ≡ b.cost
  plan_costs plan valid same steps =
      valid.costs ∙ ap (λ game. total_cost (game_of game) (start (game_of game)) plan.steps) same ∙ ap (total_cost g (start g)) steps ∙ no_worse.costs ∙ done.packs.cost

  costs_no_more : b.cost ≤ total_cost g (start g) first
  costs_no_more = let no_more = no_worse.no_more in let cost = done.packs.cost in omega arith

  table_closes : (table : CoverTableParts) → IsCoverSearchedTable g first budget b.cost table → 2 ^ (2 * g.dag.count - size g.dag.inputs) ≤ budget → table.bound ≡ b.cost
  table_closes table at large =
      let cost : searched.search.cost ≡ b.cost = done.packs.cost in
      cover_enough_budget_is_optimal ends g dag first finishing budget large table.rows at.rows table.bound (subst (λ cost. IsCoverSupport g table.rows cost table.bound) (sym cost) at.support) ∙ cost

pub cover_found_is : FloorOfFinish → (first : PlanParts) → IsGame first.game → IsPlan first → (budget : ℕ) → budget ≤ 8000 → (s : Store) (b : Best) (made : List Made) → IsCoverDone (game_of first.game) first.steps budget s b made
    → (found : CoverFound) → found.plan.game ≡ first.game → found.plan.steps ≡ (cover_searched (game_of first.game) first.steps budget).search.plan → IsPlan found.plan → found.first_cost ≡ first.total
    → IsCoverSearchedTable (game_of first.game) first.steps budget b.cost found.table → (found.verdict ≡ Optimal) ↔ (found.table.bound ≡ b.cost) → (found.verdict ≡ Open) ↔ (found.table.bound ≢ b.cost)
    → IsCoverFound first budget found
cover_found_is ends first is valid budget most s b made done found same_game steps plan first_cost table optimal other =
    let cost : found.plan.total ≡ b.cost = plan_costs ends first.game is first.steps valid.finishing budget s b made done found.plan plan same_game steps in
    let no_more = costs_no_more ends first.game is first.steps valid.finishing budget s b made done in
    let first_costs = valid.costs in
    record {
      game = same_game;
      steps = steps;
      first_cost = first_cost;
      no_more = omega (arith, cost, no_more, first_costs);
      table = subst (λ cost. IsCoverSearchedTable (game_of first.game) first.steps budget cost found.table) (sym cost) table;
      in_range = cover_in_range first.game is found.table table.of_game (let few = table.few in omega (arith, few, most));
      is_optimal = (λ is. optimal.0 is ∙ sym cost, λ same. optimal.1 (same ∙ cost));
      is_open = (
        λ is.
            let most = table.support.within_cost in
            let differs = other.0 is in
            let less : found.table.bound < b.cost = omega (arith, most, differs) in
            (table.fills less, omega (arith, less, cost)),
        λ both. other.1 (λ same. let less = both.1 in absurd (omega (arith, less, same, cost))),
      );
      enough = λ large. optimal.1 (table_closes ends first.game is first.steps valid.finishing budget s b made done found.table table large);
    }
