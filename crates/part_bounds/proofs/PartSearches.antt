-- What the search of a part answers, and that the bounds of the parts add up.
use Rattle.std.proofs.Common.{◌≡◌, ℕ, zero, suc, ◌+◌, ◌≤◌, ◌<◌, List, [], ◌∷◌, ◌++◌, length, take, get_or, inl, inr, sym, refl, ap, ◌∙◌, subst, arith, append-nil}
use Rattle.std.specs.Prelude.{Option, Some, None, slice_get, flat_map}
use Rattle.std.proofs.lemmas.Option.{slice_get_within, slice_get-get_or}
use Rattle.std.proofs.lemmas.List.{length-append, take_more}
use Rattle.std.proofs.lemmas.List.Elements.{All-push}
use Rattle.std.proofs.lemmas.List.Concat.{flat_map-append}
use Rattle.std.proofs.lemmas.List.Sums.{sum_by-cons}
use Rattle.std.proofs.lemmas.Bool.{cases_lt}
use Rattle.comp_graph.specs.Vertices.{Vertices, sum_below}
use Rattle.comp_graph.specs.Games.{PebbleGame, GameParts, IsGame, game_of}
use Rattle.comp_graph.specs.Graphs.{GraphParts, dag_of}
use Rattle.comp_graph.proofs.GraphLaws.{IsDag-dag_of}
use Rattle.comp_graph.proofs.Sets.{AllBelow-set_below}
use Rattle.pebble_rules.specs.Rules.{start}
use Rattle.normal_steps.specs.Steps.{IsFinishing, total_cost}
use Rattle.normal_steps.specs.PlanMoves.{play_moves}
use Rattle.normal_steps.specs.Plans.{PlanParts, IsPlan}
use Rattle.normal_steps.proofs.PlanMoves.{plans_are_pebblings}
use Rattle.first_plan.specs.FirstPlan.{first_steps}
use Rattle.first_plan.proofs.Turns.{first_plan_finishes}
use Rattle.first_plan.proofs.Costs.{first_is_plan}
use Rattle.potential_cert.specs.TableLaws.{BoundIsBelowPebblings}
use Rattle.potential_cert.specs.TableBytes.{CanBeSpelled, IsSpelling, table_bytes}
use Rattle.search_laws.specs.Search.{searched}
use Rattle.search_laws.specs.SearchLaws.{IsNoWorse, PlanIsNoWorse}
use Rattle.branch_bound.specs.declared.searching.Found.{Found}
use Rattle.branch_bound.specs.Founds.{IsSearchedTable, IsFound}
use Rattle.part_bounds.specs.declared.searching.PartBound.{PartBound}
use Rattle.part_bounds.specs.Parts.{part, part_game, ArePartSets}
use Rattle.part_bounds.specs.Laws.{IsBound}
use Rattle.part_bounds.specs.Bounds.{IsPartBound, ArePartBounds, sum_of_bounds, AreSpellings}
use Rattle.part_bounds.proofs.Cutting.{cuts_are_dags}
use Rattle.part_bounds.proofs.Costs.{sums_are_bounds}
use Rattle.part_bounds.proofs.Kept.{get_front, get_end, get_at}

-- ---- one part

module _ (no_worse : PlanIsNoWorse) (first : PlanParts) (is : IsGame first.game) (valid : IsPlan first) (steps : first.steps ≡ first_steps (game_of first.game)) (budget : ℕ) (found : Found) (at : IsFound first budget found) (plan : IsPlan found.plan) where
  abbrev g : PebbleGame
  g = game_of first.game

  better : IsNoWorse g first.steps budget
  better = no_worse g (IsDag-dag_of first.game.graph is.valid) first.steps valid.finishing budget

  -- the plan costs what the search says
  costs : found.plan.total ≡ (searched g first.steps budget).cost
  costs =
      plan.costs ∙ ap (λ game. total_cost (game_of game) (start (game_of game)) found.plan.steps) at.game
      ∙ ap (total_cost g (start g)) at.steps ∙ better.costs

  pub part_bound_is : (total : ℕ) → total ≡ found.plan.total → IsPartBound g budget (record { cost = total; table = found.table })
  part_bound_is total e = record {
    searched_cost = e ∙ costs ∙ ap (λ ss. (searched g ss budget).cost) steps;
    no_more =
        let less = at.no_more in
        let first_costs = valid.costs in
        let same = ap (total_cost g (start g)) steps in
        omega arith;
    paid =
        let played = plans_are_pebblings g (IsDag-dag_of first.game.graph is.valid) (searched g first.steps budget).plan better.finishing in
        (play_moves g (start g) (searched g first.steps budget).plan, played.complete, played.costs ∙ better.costs ∙ sym costs ∙ sym e);
    table = subst (λ ss. IsSearchedTable g ss budget total found.table) steps (subst (λ cost. IsSearchedTable g first.steps budget cost found.table) (sym e) at.table);
    in_range = at.in_range;
  }

-- ---- one part after another

pub set_is_part : (g : GraphParts) (parts k : ℕ) (sets items : List Vertices) (one : Vertices) → ArePartSets g parts sets → items ≡ sets → k < length items → one ≡ get_or items k one → one ≡ part g parts k
set_is_part g parts k sets items one are e less is =
    is ∙ ap (λ xs. get_or xs k one) e ∙ are.each k (let many = are.count in let same = ap length e in omega arith) one

-- the first n parts have their bounds
pub record AreFoundBelow (g : GameParts) (parts budget n : ℕ) (found : List PartBound) : Type 0 where
  pub count : length found ≡ n
  pub each : (k : ℕ) (one : PartBound) → slice_get found k ≡ Some one → IsPartBound (part_game g parts k) budget one

pub none_found_yet : (g : GameParts) (parts budget : ℕ) → AreFoundBelow g parts budget 0 []
none_found_yet g parts budget = record { count = refl; each = λ k one e. absurd (let past = slice_get_within [] k one e in omega arith) }

some_same : {A : Type 0} {x y : A} → Some x ≡ Some y → x ≡ y
some_same e = cc

pub one_more_found : (g : GameParts) (parts budget n : ℕ) (found : List PartBound) (more : PartBound) → AreFoundBelow g parts budget n found → IsPartBound (part_game g parts n) budget more
    → AreFoundBelow g parts budget (n + 1) (found ++ more ∷ [])
one_more_found g parts budget n found more before is = record {
  count = let sum = length-append found (more ∷ []) in let many = before.count in omega arith;
  each = λ k one e. elim (cases_lt k n) [
    | inl lower ↦ before.each k one (sym (get_front found (more ∷ []) k (let many = before.count in omega arith)) ∙ e)
    | inr past ↦
        let within = slice_get_within (found ++ more ∷ []) k one e in
        let sum = length-append found (more ∷ []) in
        let many = before.count in
        let last : k ≡ n = omega arith in
        let here : more ≡ one = some_same (sym (get_end found more) ∙ ap (slice_get (found ++ more ∷ [])) (many ∙ sym last) ∙ e) in
        subst (IsPartBound (part_game g parts k) budget) here (subst (λ j. IsPartBound (part_game g parts j) budget more) (sym last) is)
  ];
}

-- ---- the sum

bound_of : Option PartBound → ℕ
bound_of None = 0
bound_of (Some one) = one.table.bound

abbrev bound_at : List PartBound → ℕ → ℕ
bound_at found k = bound_of (slice_get found k)

first_of_sum : (n : ℕ) (f : ℕ → ℕ) → sum_below (suc n) f ≡ f 0 + sum_below n (λ k. f (suc k))
first_of_sum zero f = refl
first_of_sum (suc n) f = let rest = first_of_sum n f in omega arith

sum_by_place : (found : List PartBound) → sum_of_bounds found ≡ sum_below (length found) (bound_at found)
unfolding bound_of
sum_by_place [] = refl
sum_by_place (one ∷ found) =
    let rest = sum_by_place found in
    let cons = sum_by-cons (λ (one : PartBound). one.table.bound) one found in
    let split = first_of_sum (length found) (bound_at (one ∷ found)) in
    omega arith

module _ (bounded : BoundIsBelowPebblings) (g : GameParts) (is : IsGame g) (parts budget : ℕ) (found : List PartBound) (are : AreFoundBelow g parts budget parts found) where
  part_is_bounded : (k : ℕ) → k < parts → IsBound (part_game g parts k) (bound_at found k)
  unfolding bound_of
  part_is_bounded k less =
      let one = get_at found k (let many = are.count in omega arith) in
      let at = are.each k one.0 one.1 in
      let dag = cuts_are_dags (dag_of g.graph) (IsDag-dag_of g.graph is.valid) (part g.graph parts k) (AllBelow-set_below _ _) in
      subst (λ o. IsBound (part_game g parts k) (bound_of o)) (sym one.1)
      (bounded (part_game g parts k) dag one.0.table.rows one.0.table.bound at.table.of_game.valid)

  sum_is_bound : IsBound (game_of g) (sum_of_bounds found)
  sum_is_bound =
      subst (IsBound (game_of g)) (sym (sum_by_place found ∙ ap (λ n. sum_below n (bound_at found)) are.count))
      (sums_are_bounds g is.valid parts (bound_at found) part_is_bounded)

  -- the first plan of the game is a pebbling, whose cost is a number of 32 bits
  sum_fits : sum_of_bounds found ≤ 4294967295
  sum_fits =
      let first = first_steps (game_of g) in
      let finishing : IsFinishing (game_of g) (start (game_of g)) first = first_plan_finishes (game_of g) (IsDag-dag_of g.graph is.valid) is.room in
      let played = plans_are_pebblings (game_of g) (IsDag-dag_of g.graph is.valid) first finishing in
      let less = sum_is_bound (play_moves (game_of g) (start (game_of g)) first) played.complete in
      let same = played.costs in
      elim (cases_lt 4294967295 (total_cost (game_of g) (start (game_of g)) first)) [
        | inl dear ↦ absurd (first_is_plan g is first refl (inr dear))
        | inr fits ↦ omega arith
      ]

  pub all_found : ArePartBounds g parts budget found
  all_found = record {
    count = are.count;
    each = are.each;
    bound = sum_is_bound;
    fits = sum_fits;
    in_range = λ k other less. (are.each k (get_or found k other) (slice_get-get_or found k other less)).in_range;
  }

-- ---- one table after another

abbrev bytes_of : PartBound → List ℕ
bytes_of one = table_bytes one.table

pub one_more_written : (found : List PartBound) (k : ℕ) (one : PartBound) (bytes piece more : List ℕ) → k < length found → one ≡ get_or found k one → AreSpellings bytes (take k found) → IsSpelling piece one.table
    → more ≡ bytes ++ piece → AreSpellings more (take (k + 1) found)
one_more_written found k one bytes piece more less is before spelled e =
    subst (AreSpellings more) (sym (take_more found k one less ∙ ap (λ x. take k found ++ x ∷ []) (sym is))) (record {
      fit = All-push (λ (one : PartBound). CanBeSpelled one.table) (take k found) one before.fit spelled.fits;
      bytes_are =
          e ∙ (λ i. before.bytes_are i ++ spelled.bytes_are i)
          ∙ sym (flat_map-append bytes_of (take k found) (one ∷ []) ∙ ap (λ last. flat_map bytes_of (take k found) ++ last) (append-nil (bytes_of one)));
    })
