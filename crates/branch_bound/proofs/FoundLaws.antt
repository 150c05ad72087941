-- What a search that is done answers.
use Rattle.std.proofs.Common.{◌≡◌, ℕ, ◌+◌, ◌*◌, ◌-◌, ◌≤◌, ◌<◌, ◌≢◌, List, [], ◌∷◌, length, ◌⊎◌, inl, inr, ◌↔◌, refl, sym, ap, ◌∙◌, subst, arith}
use Rattle.std.specs.Prelude.{◌^◌}
use Rattle.std.specs.List.Sorted.{IsPermutation, IsSortedBy}
use Rattle.comp_graph.specs.Vertices.{size}
use Rattle.comp_graph.specs.Dags.{IsDag}
use Rattle.comp_graph.specs.Games.{PebbleGame, GameParts, IsGame, game_of}
use Rattle.comp_graph.proofs.GraphLaws.{IsDag-dag_of}
use Rattle.pebble_rules.specs.Rules.{start}
use Rattle.normal_steps.specs.Steps.{IsFinishing, total_cost}
use Rattle.normal_steps.specs.Plans.{PlanParts, IsPlan}
use Rattle.normal_steps.specs.declared.step.Step.{Step}
use Rattle.comp_graph.specs.Lists.{IsIn}
use Rattle.forced_bounds.specs.FloorLaws.{FloorOfFinish}
use Rattle.potential_cert.specs.declared.tables.Row.{Row}
use Rattle.potential_cert.specs.Table.{TableParts, AreDistinct, IsRising, IsSupport}
use Rattle.potential_cert.specs.TableLaws.{HaveSameMembers}
use Rattle.potential_cert.specs.TableBytes.{IsInRange}
use Rattle.potential_cert.specs.Order.{precedes}
use Rattle.potential_cert.proofs.Order.{precedes_is_strict}
use Rattle.potential_cert.proofs.Rising.{rising_is_distinct}
use Rattle.potential_cert.proofs.SupportLaws.{support_ignores_order}
use Rattle.search_laws.specs.Search.{searched, rows_searched}
use Rattle.search_laws.specs.SearchLaws.{IsNoWorse}
use Rattle.search_laws.proofs.Entries.{rows_apart}
use Rattle.search_laws.proofs.Count.{enough_budget_is_optimal}
use Rattle.search_laws.proofs.Results.{search_has, plan_is_no_worse, searched_table_is_valid, few_rows_are_optimal, open_fills_budget}
use Rattle.search_laws.specs.Shortcut.{IsLeastPlace}
use Rattle.search_laws.specs.Turning.{IsDone}
use Rattle.search_laws.proofs.Bounds.{bound_is_support, row_places}
use Rattle.branch_bound.specs.declared.frontier.Best.{Best}
use Rattle.branch_bound.specs.declared.frontier.Frontier.{Frontier}
use Rattle.branch_bound.specs.Frontiers.{HasEnded, store_of, best_of, IsFrontier, rows_below}
use Rattle.branch_bound.specs.declared.searching.Found.{Found}
use Rattle.branch_bound.specs.declared.searching.Verdict.TheVariants.{Optimal, Open}
use Rattle.branch_bound.specs.Founds.{IsSearchedTable, IsFound}
use Rattle.branch_bound.proofs.RowLaws.{IsSmall, rows_below_are, are_rows_below, rows_below_apart, still_apart, same_rows, rows_rise}

-- ---- lists of distinct rows

record IsWithout (r : Row) (rows : List Row) : Type 0 where
  rest : List Row
  shorter : length rows ≡ length rest + 1
  others : (x : Row) → IsIn x rows → (x ≡ r) ⊎ IsIn x rest

without_one : (r : Row) (rows : List Row) → IsIn r rows → IsWithout r rows
without_one r [] i = absurd i
without_one r (q ∷ rows) (inl e) = record { rest = rows; shorter = omega arith; others = λ x i. others x i }
  where
    others : (x : Row) → (x ≡ q) ⊎ IsIn x rows → (x ≡ r) ⊎ IsIn x rows
    others x (inl same) = inl (same ∙ sym e)
    others x (inr i) = inr i
without_one r (q ∷ rows) (inr i) =
    let rest = without_one r rows i in
    record { rest = q ∷ rest.rest; shorter = let shorter = rest.shorter in omega arith; others = λ x j. others x j rest.rest rest.others }
  where
    others : (x : Row) → (x ≡ q) ⊎ IsIn x rows → (left : List Row) → ((x : Row) → IsIn x rows → (x ≡ r) ⊎ IsIn x left) → (x ≡ r) ⊎ IsIn x (q ∷ left)
    others x (inl same) left rest = inr (inl same)
    others x (inr j) left rest = elim (rest x j) [ inl e ↦ inl e | inr k ↦ inr (inr k) ]

-- distinct rows that are all among others are no more than these
pub length_within : (rows others : List Row) → AreDistinct rows → ((r : Row) → IsIn r rows → IsIn r others) → length rows ≤ length others
length_within [] others distinct within = omega arith
length_within (r ∷ rows) others distinct within =
    let left = without_one r others (within r (inl refl)) in
    let few = length_within rows left.rest distinct.1 (λ x i. rest_in x i left.rest left.others) in
    let shorter = left.shorter in
    omega arith
  where
    rest_in : (x : Row) → IsIn x rows → (left : List Row) → ((x : Row) → IsIn x others → (x ≡ r) ⊎ IsIn x left) → IsIn x left
    rest_in x i left cases = elim (cases x (within x (inr i))) [ inl e ↦ absurd (distinct.0 x i (ap (λ r. r.position) e)) | inr j ↦ j ]

-- ---- what is done

module _ (ends : FloorOfFinish) (game : GameParts) (is : IsGame game) (first : List Step) (finishing : IsFinishing (game_of game) (start (game_of game)) first) (budget : ℕ) (f : Frontier) (b : Best)
    (done : IsDone (game_of game) first budget (store_of f) (best_of b)) where
  abbrev g : PebbleGame
  g = game_of game

  no_worse : IsNoWorse g first budget
  no_worse = plan_is_no_worse ends g (IsDag-dag_of game.graph is.valid) first finishing budget

  -- a plan of the search's steps costs what the search says
  pub plan_costs : (plan : PlanParts) → IsPlan plan → plan.game ≡ game → plan.steps ≡ (searched g first budget).plan → plan.total ≡ b.cost
  plan_costs plan valid same steps =
      valid.costs ∙ ap (λ game. total_cost (game_of game) (start (game_of game)) plan.steps) same ∙ ap (total_cost g (start g)) steps ∙ no_worse.costs ∙ done.packs.cost

  pub costs_no_more : b.cost ≤ total_cost g (start g) first
  costs_no_more = let no_more = no_worse.no_more in let cost = done.packs.cost in omega arith

  -- the state stands for what the search gives
  pub has_ended : HasEnded g first (store_of f) (best_of b) (searched g first budget)
  has_ended = record {
    plays = done.plays;
    packs = done.packs;
    finishing = no_worse.finishing;
    no_more = let costs = no_worse.costs in let no_more = no_worse.no_more in omega arith;
  }

  module _ (frontier : IsFrontier f) (rows : List Row) (moved : IsPermutation (rows_below (store_of f) (length f.rows.slots)) rows) (sorted : IsSortedBy (λ (r q : Row). precedes r.position q.position) rows) where
    members : HaveSameMembers (rows_searched g first budget) rows
    members r =
        let places = row_places g first (store_of f) (best_of b) done.plays (searched g first budget) done.packs r in
        let same = same_rows (rows_below (store_of f) (length f.rows.slots)) rows moved r in (
          λ i. same.0 (are_rows_below (store_of f) (length f.rows.slots) r (places.0 i)),
          λ i. places.1 (rows_below_are (store_of f) (length f.rows.slots) r (same.1 i)),
        )

    small : (r : Row) → IsIn r rows → IsSmall r.position
    small r i =
        let at = rows_below_are (store_of f) (length f.rows.slots) r ((same_rows (rows_below (store_of f) (length f.rows.slots)) rows moved r).1 i) in
        let few = frontier.narrow.few in
        let fit = frontier.narrow.fit at.0 at.1 in
        let p_is = ap (λ r. r.position) at.3 in
        subst IsSmall (sym p_is) (record {
          red = record { below = λ v m. let less = fit.red.below v m in omega arith };
          blue = record { below = λ v m. let less = fit.blue.below v m in omega arith };
        })

    rise : IsRising precedes rows
    rise = rows_rise rows sorted (still_apart (rows_below (store_of f) (length f.rows.slots)) rows moved (rows_below_apart (store_of f) (length f.rows.slots) done.packs.apart)) small

    distinct : AreDistinct rows
    distinct = rising_is_distinct precedes precedes_is_strict rows rise

    made_distinct : AreDistinct (rows_searched g first budget)
    made_distinct = rows_apart (searched g first budget).entries (search_has ends g (IsDag-dag_of game.graph is.valid) first finishing budget).stands.kept.apart

    as_many : length rows ≡ length (rows_searched g first budget)
    as_many =
        let a = length_within rows (rows_searched g first budget) distinct (λ r. (members r).1) in
        let z = length_within (rows_searched g first budget) rows made_distinct (λ r. (members r).0) in
        omega arith

    pub table_is : (table : TableParts) → table.vertices ≡ length game.graph.nodes → table.slots ≡ game.slots → table.load ≡ game.weights.load → table.store ≡ game.weights.store
        → table.rows ≡ rows → IsLeastPlace (store_of f) b.cost table.bound (length f.rows.slots) → IsSearchedTable g first budget b.cost table
    table_is table vertices slots load store rows_are least =
        let dag = IsDag-dag_of game.graph is.valid in
        let support = bound_is_support ends g dag first finishing budget (store_of f) (best_of b) done table.bound least in
        let cost : (searched g first budget).cost ≡ b.cost = done.packs.cost in
        let same : HaveSameMembers (rows_searched g first budget) table.rows = subst (HaveSameMembers (rows_searched g first budget)) (sym rows_are) members in
        let apart : AreDistinct table.rows = subst AreDistinct (sym rows_are) distinct in
        let long : length table.rows ≡ length (rows_searched g first budget) = ap length rows_are ∙ as_many in
        let few = (few_rows_are_optimal ends g dag first finishing budget).few in
        record {
          of_game = record {
            vertices = vertices;
            slots = slots;
            load = load;
            store = store;
            rise = subst (IsRising precedes) (sym rows_are) rise;
            valid = searched_table_is_valid ends g dag first finishing budget table.rows apart same table.bound
                (support_ignores_order g (rows_searched g first budget) table.rows (searched g first budget).cost table.bound same support);
          };
          rows = same;
          few = omega (arith, long, few);
          support = subst (λ cost. IsSupport g table.rows cost table.bound) cost (support_ignores_order g (rows_searched g first budget) table.rows (searched g first budget).cost table.bound same support);
          fills = λ less. long ∙ open_fills_budget ends g dag first finishing budget table.bound support (omega (arith, cost, less));
        }

-- ---- what is found

-- the other way round: the support of the search's rows is that of the table's
table_closes : FloorOfFinish → (g : PebbleGame) → IsDag g.dag → (first : List Step) → IsFinishing g (start g) first → (budget cost : ℕ) (table : TableParts)
    → (searched g first budget).cost ≡ cost → IsSearchedTable g first budget cost table → 2 ^ (2 * g.dag.count - size g.dag.inputs) ≤ budget → table.bound ≡ cost
table_closes ends g dag first finishing budget cost table same at large =
    enough_budget_is_optimal ends g dag first finishing budget large table.bound
    (subst (λ cost. IsSupport g (rows_searched g first budget) cost table.bound) (sym same)
    (support_ignores_order g table.rows (rows_searched g first budget) cost table.bound (λ r. ((at.rows r).1, (at.rows r).0)) at.support))
    ∙ same

-- the table can be spelled in bytes
table_in_range : (game : GameParts) → IsGame game → (first : List Step) (budget cost : ℕ) → budget ≤ 150000 → (table : TableParts) → IsSearchedTable (game_of game) first budget cost table → IsInRange table
table_in_range game is first budget cost most table at =
    let few = at.few in
    let vertices = at.of_game.vertices in
    let small = is.valid.small in
    let some_load = is.weights.load_some in
    let some_store = is.weights.store_some in
    let room = is.room in
    record {
      vertices = omega (arith, vertices, small);
      some_slots = let slots = at.of_game.slots in omega (arith, slots, room);
      slots = let slots = at.of_game.slots in let most = is.most in omega (arith, slots, most);
      some_load = let load = at.of_game.load in omega (arith, load, some_load);
      load = let load = at.of_game.load in let most = is.weights.load_most in omega (arith, load, most);
      some_store = let store = at.of_game.store in omega (arith, store, some_store);
      store = let store = at.of_game.store in let most = is.weights.store_most in omega (arith, store, most);
      few = omega (arith, few, most);
      red = λ r i. record { below = λ v m. let less = (at.of_game.valid.sound r i).red_below v m in omega (arith, vertices, less) };
      blue = λ r i. record { below = λ v m. let less = (at.of_game.valid.sound r i).blue_below v m in omega (arith, vertices, less) };
    }

pub found_is : FloorOfFinish → (first : PlanParts) → IsGame first.game → IsPlan first → (budget : ℕ) → budget ≤ 150000 → (f : Frontier) (b : Best) → IsDone (game_of first.game) first.steps budget (store_of f) (best_of b)
    → (found : Found) → found.plan.game ≡ first.game → found.plan.steps ≡ (searched (game_of first.game) first.steps budget).plan → IsPlan found.plan → found.first_cost ≡ first.total
    → IsSearchedTable (game_of first.game) first.steps budget b.cost found.table → (found.verdict ≡ Optimal) ↔ (found.table.bound ≡ b.cost) → (found.verdict ≡ Open) ↔ (found.table.bound ≢ b.cost)
    → IsFound first budget found
found_is ends first is valid budget most f b done found same_game steps plan first_cost table optimal other =
    let cost : found.plan.total ≡ b.cost = plan_costs ends first.game is first.steps valid.finishing budget f b done found.plan plan same_game steps in
    let no_more = costs_no_more ends first.game is first.steps valid.finishing budget f b done in
    let first_costs = valid.costs in
    record {
      game = same_game;
      steps = steps;
      first_cost = first_cost;
      no_more = omega (arith, cost, no_more, first_costs);
      table = subst (λ cost. IsSearchedTable (game_of first.game) first.steps budget cost found.table) (sym cost) table;
      in_range = table_in_range first.game is first.steps budget b.cost most found.table table;
      is_optimal = (λ is. optimal.0 is ∙ sym cost, λ same. optimal.1 (same ∙ cost));
      is_open = (
        λ is.
            let most = table.support.within_cost in
            let differs = other.0 is in
            let less : found.table.bound < b.cost = omega (arith, most, differs) in
            (table.fills less, omega (arith, less, cost)),
        λ both. other.1 (λ same. let less = both.1 in absurd (omega (arith, less, same, cost))),
      );
      enough = λ large. optimal.1 (table_closes ends (game_of first.game) (IsDag-dag_of first.game.graph is.valid) first.steps valid.finishing budget b.cost found.table done.packs.cost table large);
    }
