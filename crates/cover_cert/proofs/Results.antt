-- The laws of the search that names covering rows.
use Rattle.std.proofs.Common.{◌≡◌, ℕ, ◌+◌, ◌≤◌, ◌<◌, true, List, [], ◌∷◌, map, length, ◌⊎◌, inl, inr, refl, sym, ap, ◌∙◌, subst, arith}
use Rattle.comp_graph.specs.Dags.{IsDag}
use Rattle.comp_graph.specs.Games.{PebbleGame}
use Rattle.pebble_rules.specs.Rules.{start}
use Rattle.pebble_rules.proofs.Possible.{true_or_false}
use Rattle.normal_steps.specs.Steps.{stepped, step_cost, CanFinish, IsFinishing, total_cost}
use Rattle.normal_steps.specs.Sound.{IsSound}
use Rattle.normal_steps.specs.StepTests.{legal_steps}
use Rattle.normal_steps.specs.declared.step.Step.{Step}
use Rattle.comp_graph.specs.Lists.{IsIn}
use Rattle.forced_bounds.specs.Floor.{floor}
use Rattle.forced_bounds.specs.FloorLaws.{FloorOfFinish}
use Rattle.potential_cert.specs.declared.tables.Row.{Row}
use Rattle.potential_cert.specs.Table.{AreDistinct, IsRising, HasRow, HasRowWithin, offer, FinishHolds}
use Rattle.potential_cert.specs.TableLaws.{HaveSameMembers}
use Rattle.potential_cert.specs.Order.{precedes}
use Rattle.potential_cert.proofs.Order.{precedes_is_strict}
use Rattle.potential_cert.proofs.Rising.{rising_is_distinct}
use Rattle.search_laws.specs.Search.{is_waiting, is_expanded, Entry, begun, rows_of}
use Rattle.search_laws.proofs.Lists.{in_map, map_in}
use Rattle.search_laws.specs.Standing.{row_of, IsReachedBy, start_row, IsFresh}
use Rattle.search_laws.proofs.Entries.{NoneWaits, apart_same, rows_in, in_rows, rows_apart}
use Rattle.search_laws.proofs.Turns.{played_sound}
use Rattle.search_laws.proofs.Results.{begun_stands, begun_rows}
use Rattle.search_laws.proofs.Count.{fewer_unfinished}
use Rattle.cover_cert.specs.Covers.{Covers}
use Rattle.potential_cert.specs.Places.{IsAt}
use Rattle.cover_cert.specs.declared.tables.Cover.{Cover}
use Rattle.cover_cert.specs.CoverTable.{CoverRowParts, IsNamed, IsCoveredBy, NamesHold, StepsHold, StartHolds, IsCoverTable, IsLeavingUnnamed, IsOffered, IsCoverSupport, StepHolds, plain, plain_rows}
use Rattle.cover_cert.specs.CoverSearch.{Naming, CoverSearch, cover_searched, rows_covered, number_of, namings_of, numbered, with_names, cover_rows}
use Rattle.cover_cert.specs.CoverSearchLaws.{CoverPlanIsNoWorse, CoverRowsAreReached, CoverSearchedIsValid, CoverFewRowsAreOptimal, CoverOpenFillsBudget, CoverEnoughBudgetIsOptimal}
use Rattle.potential_cert.proofs.Places.{at_in, at_below, at_one}
use Rattle.cover_cert.proofs.Namings.{naming_in, places_rise, naming_named}
use Rattle.cover_cert.proofs.Sorted.{one_row, length_within, same_length, none_mapped, at_map, plain_full, number_at}
use Rattle.cover_cert.proofs.Turns.{HasCoverSearched, has_cover_searched}
use Rattle.cover_cert.specs.CoverStanding.{IsGoodNaming, IsSettledOrNamed, CoverStands}

-- ---- the beginning

pub cover_begun_stands : (g : PebbleGame) → IsDag g.dag → (plan : List Step) → IsFinishing g (start g) plan
    → CoverStands g (total_cost g (start g) plan) (record { search = begun g plan; names = [] })
cover_begun_stands g dag plan finishing = record {
  kept = (begun_stands g dag plan finishing).kept;
  settled = λ r i k s at. absurd (subst (λ rows. IsIn r rows) (begun_rows g plan) i);
  named = record { good = λ n i. absurd i; rise = tt };
}

pub cover_search_has : FloorOfFinish → (g : PebbleGame) → IsDag g.dag → (plan : List Step) → IsFinishing g (start g) plan → (budget : ℕ)
    → HasCoverSearched g (total_cost g (start g) plan) budget (record { search = begun g plan; names = [] }) (cover_searched g plan budget)
cover_search_has ends g dag plan finishing budget =
    has_cover_searched ends g dag _ budget (record { search = begun g plan; names = [] }) (cover_begun_stands g dag plan finishing)

pub cover_plan_is_no_worse : FloorOfFinish → CoverPlanIsNoWorse
cover_plan_is_no_worse ends g dag plan finishing budget =
    let kept = (cover_search_has ends g dag plan finishing budget).stands.kept in
    record { finishing = kept.finishing; costs = kept.costs; no_more = kept.no_more }

module _ (g : PebbleGame) (dag : IsDag g.dag) (first : ℕ) (t : CoverSearch) (stands : CoverStands g first t) where
  abbrev made : List Row
  made = rows_of t.search.entries

  row_reached : (r : Row) → IsIn r made → (ss : List Step) × IsReachedBy g r.position r.cost ss
  row_reached r i =
      let e = rows_in r t.search.entries i in
      (e.0.play, subst (λ r. IsReachedBy g r.position r.cost e.0.play) (sym e.3) (stands.kept.played e.0 e.1))

  row_unfinished : (r : Row) → IsIn r made → CanFinish g r.position → ⊥
  row_unfinished r i finish =
      let e = rows_in r t.search.entries i in
      stands.kept.unfinished e.0 e.1 (subst (λ r. CanFinish g r.position) e.3 finish)

  pub row_sound : (r : Row) → IsIn r made → IsSound g r.position
  row_sound r i = let reached = row_reached r i in played_sound g dag r.position r.cost reached.0 reached.1

  made_distinct : AreDistinct made
  made_distinct = rows_apart t.search.entries stands.kept.apart

  -- an entry of a row's position is that row
  entry_of_row : (e : Entry) → IsIn e t.search.entries → (r : Row) → IsIn r made → r.position ≡ e.position → is_expanded e.mark ≡ true
  entry_of_row e i r j at =
      let f = rows_in r t.search.entries j in
      let one = apart_same t.search.entries stands.kept.apart f.0 e f.1 i (sym (ap (λ r. r.position) f.3) ∙ at) in
      subst (λ e. is_expanded e.mark ≡ true) one f.2

  -- ---- the rows in order, with their names

  module _ (sorted : List Row) (rise : IsRising precedes sorted) (members : HaveSameMembers made sorted) where
    abbrev rows : List CoverRowParts
    rows = cover_rows sorted t.names

    abbrev full : Row → CoverRowParts
    full = with_names sorted t.names

    plain_is : plain_rows rows ≡ sorted
    plain_is = plain_full sorted t.names sorted

    sorted_distinct : AreDistinct sorted
    sorted_distinct = rising_is_distinct precedes precedes_is_strict sorted rise

    -- a row of the table is a row that was made
    abbrev FromMade : CoverRowParts → Type 0
    FromMade r = (q : Row) × IsIn q made × (r ≡ full q)

    row_made : (r : CoverRowParts) → IsIn r rows → FromMade r
    row_made r i = let q = map_in full r sorted i in (q.0, (members q.0).1 q.1, q.2)

    full_in : (q : Row) → IsIn q made → IsIn (full q) rows
    full_in q i = in_map full q sorted ((members q).0 i)

    full_named : (q : Row) → IsIn q made → (n : Cover) → IsIn n (full q).names → (s : Step) → IsAt s n.step (legal_steps g q.position) → IsCoveredBy g rows (full q) s n.row
    full_named q i n j s at =
        let m = map_in (numbered sorted) n (namings_of t.names q.position) j in
        let is = naming_in t.names q.position m.0 m.1 in
        named_by m.0 (m.2) is.1 (stands.named.good m.0 is.0)
      where
        named_by : (m : Naming) → n ≡ numbered sorted m → m.row ≡ q.position → IsGoodNaming g made m → IsCoveredBy g rows (full q) s n.row
        named_by m e here good =
            let place = number_at sorted good.by ((members good.by).0 good.is_by) m.by good.by_at in
            let by = one_row sorted sorted_distinct place.0 good.by (at_in place.0 (number_of sorted m.by) sorted place.1) ((members good.by).0 good.is_by) (place.2 ∙ sym good.by_at) in
            let same_step : s ≡ good.step = at_one s good.step m.step (legal_steps g q.position)
            (subst (λ k. IsAt s k (legal_steps g q.position)) (ap (λ n. n.step) e) at)
            (subst (λ p. IsAt good.step m.step (legal_steps g p)) here good.is_step) in
            let row : good.row ≡ q = one_row made made_distinct good.row q good.is_row i (good.row_at ∙ here) in
            subst (λ s. IsCoveredBy g rows (full q) s n.row) (sym same_step)
            (record {
              can_be_named = good.can_be_named;
              row = full place.0;
              at = subst (λ k. IsAt (full place.0) k rows) (sym (ap (λ n. n.row) e)) (at_map full place.0 (number_of sorted m.by) sorted place.1);
              covers = subst (λ p. Covers g place.0.position (stepped g p good.step)) here
                  (subst (λ p. Covers g p (stepped g m.row good.step)) (sym place.2) good.covers);
              costs =
                  let costs = subst (λ p. good.by.cost ≤ good.row.cost + step_cost g p good.step) here good.costs in
                  let a = ap (λ r. r.cost) by in
                  let b = ap (λ r. r.cost) row in
                  omega arith;
            })

    -- what a step without a name is
    abbrev IsPlainSettled : ℕ → Row → Step → Type 0
    IsPlainSettled bound q s = StepHolds g rows bound (full q) s

    full_unnamed : (bound : ℕ) → IsCoverSupport g rows t.search.cost bound → (q : Row) → IsIn q made → (k : ℕ) (s : Step) → IsAt s k (legal_steps g q.position)
        → (IsNamed (full q).names k → ⊥) → IsSettledOrNamed g t q k s → IsPlainSettled bound q s
    full_unnamed bound support q i k s at no_name (inl n) = absurd (no_name (naming_named sorted t.names q.position k n))
    full_unnamed bound support q i k s at no_name (inr (inl beaten)) = inr (let most = support.within_cost in omega arith)
    full_unnamed bound support q i k s at no_name (inr (inr has)) = elim (true_or_false (is_expanded has.0.mark)) [
      | inl row ↦ inl (subst (λ rs. HasRowWithin rs (stepped g q.position s) (q.cost + step_cost g q.position s)) (sym plain_is)
          (row_of has.0, (members (row_of has.0)).0 (in_rows has.0 t.search.entries has.1 row), has.2, has.3))
      | inr not_row ↦ inr (support.within_offers (offer g q s) (
        full q,
        k,
        s,
        record {
          row = full_in q i;
          at = at;
          no_name = no_name;
          leaves = λ r.
              let x = subst (λ rs. HasRow rs (stepped g q.position s)) plain_is r in
              let row = entry_of_row has.0 has.1 x.0 ((members x.0).1 x.1) (x.2 ∙ sym has.2) in
              grind arith;
        },
        refl,
      ))
    ]

    none_made : rows ≡ [] → made ≡ []
    none_made e = nothing_in made (λ r i. subst (λ rows. IsIn r rows) (none_mapped full sorted e) ((members r).0 i))
      where
        nothing_in : (rs : List Row) → ((r : Row) → IsIn r rs → ⊥) → rs ≡ []
        nothing_in [] none = refl
        nothing_in (r ∷ rs) none = absurd (none r (inl refl))

    none_full : made ≡ [] → rows ≡ []
    none_full e = ap (map full) (nothing_in sorted (λ r i. subst (λ rs. IsIn r rs) e ((members r).1 i)))
      where
        nothing_in : (rs : List Row) → ((r : Row) → IsIn r rs → ⊥) → rs ≡ []
        nothing_in [] none = refl
        nothing_in (r ∷ rs) none = absurd (none r (inl refl))

    begins_valid : (bound : ℕ) → IsCoverSupport g rows t.search.cost bound → IsIn (start_row g) made ⊎ IsFresh g t.search → StartHolds g rows bound
    begins_valid bound support (inl row) = inr (full (start_row g), full_in (start_row g) row, refl)
    begins_valid bound support (inr fresh) = inl (support.within_floor (none_full fresh.no_rows))

    -- what holds of a made row with its names holds of each row of the table
    each : (P : CoverRowParts → Type 0) → ((q : Row) → IsIn q made → P (full q)) → (r : CoverRowParts) → IsIn r rows → P r
    each P h r i = let q = row_made r i in subst P (sym q.2) (h q.0 q.1)

    pub is_cover_table : (bound : ℕ) → IsCoverSupport g rows t.search.cost bound → IsCoverTable g rows bound
    is_cover_table bound support = record {
      rise = subst (IsRising precedes) (sym plain_is) rise;
      sound = each (λ r. IsSound g r.position) row_sound;
      starts = begins_valid bound support stands.kept.begins;
      names = each (NamesHold g rows) (λ q i. record {
        rise = places_rise sorted q.position t.names stands.named.rise;
        below = λ n j. full_below q n j;
        covered = full_named q i;
      });
      steps = each (StepsHold g rows bound) (λ q i k s at no_name. full_unnamed bound support q i k s at no_name (stands.settled q i k s at));
      finishes = each (λ r. FinishHolds g bound (plain r)) (λ q i finish. absurd (row_unfinished q i finish));
    }
      where
        full_below : (q : Row) (n : Cover) → IsIn n (full q).names → n.step < length (legal_steps g q.position)
        full_below q n j =
            let m = map_in (numbered sorted) n (namings_of t.names q.position) j in
            let is = naming_in t.names q.position m.0 m.1 in
            let good = stands.named.good m.0 is.0 in
            let less = at_below good.step m.0.step (legal_steps g q.position) (subst (λ p. IsAt good.step m.0.step (legal_steps g p)) is.1 good.is_step) in
            let place = ap (λ n. n.step) m.2 in
            omega arith

    -- ---- where no entry waits

    abbrev AtLeastCost : ℕ → Type 0
    AtLeastCost n = t.search.cost ≤ n

    offered_by : NoneWaits t.search.entries → (q : Row) → IsIn q made → (k : ℕ) (s : Step) → IsLeavingUnnamed g rows (full q) k s → IsSettledOrNamed g t q k s → AtLeastCost (offer g q s)
    offered_by none q i k s leaving (inl n) = absurd (leaving.no_name (naming_named sorted t.names q.position k n))
    offered_by none q i k s leaving (inr (inl beaten)) = beaten
    offered_by none q i k s leaving (inr (inr has)) = elim (true_or_false (is_waiting has.0.mark)) [
      | inl waits ↦ absurd (none has.0 has.1 waits)
      | inr not_waiting ↦ elim (true_or_false (is_expanded has.0.mark)) [
        | inl row ↦ absurd (leaving.leaves (subst (λ rs. HasRow rs (stepped g q.position s)) (sym plain_is)
            (row_of has.0, (members (row_of has.0)).0 (in_rows has.0 t.search.entries has.1 row), has.2)))
        | inr not_row ↦
            let beaten = stands.kept.beaten has.0 has.1 not_waiting not_row in
            let few = has.3 in
            let same_floor = ap (floor g) has.2 in
            omega arith
      ]
    ]

    offered : NoneWaits t.search.entries → (n : ℕ) → IsOffered g rows n → AtLeastCost n
    offered none n o =
        let q = row_made o.0 o.3.row in
        let leaving = subst (λ r. IsLeavingUnnamed g rows r o.1 o.2) q.2 o.3 in
        let most = offered_by none q.0 q.1 o.1 o.2 leaving (stands.settled q.0 q.1 o.1 o.2 leaving.at) in
        let same = o.4 ∙ ap (λ r. offer g (plain r) o.2) q.2 in
        omega arith

    at_start : NoneWaits t.search.entries → made ≡ [] → IsIn (start_row g) made ⊎ IsFresh g t.search → t.search.cost ≤ floor g (start g)
    at_start none empty (inl row) = absurd (subst (λ rows. IsIn (start_row g) rows) empty row)
    at_start none empty (inr fresh) = elim fresh.some [
      | inl cost ↦ cost
      | inr e ↦ elim (true_or_false (is_waiting e.0.mark)) [
        | inl waits ↦ absurd (none e.0 e.1 waits)
        | inr not_waiting ↦ elim (true_or_false (is_expanded e.0.mark)) [
          | inl row ↦ absurd (subst (λ rows. IsIn (row_of e.0) rows) empty (in_rows e.0 t.search.entries e.1 row))
          | inr not_row ↦
              let beaten = stands.kept.beaten e.0 e.1 not_waiting not_row in
              let at : t.search.cost ≤ 0 + floor g (start g) = subst (λ r. t.search.cost ≤ r.cost + floor g r.position) (fresh.starts e.0 e.1) beaten in
              omega arith
        ]
      ]
    ]

    pub is_met_by_cost : NoneWaits t.search.entries → (bound : ℕ) → IsCoverSupport g rows t.search.cost bound → bound ≡ t.search.cost
    is_met_by_cost none bound support =
        let most = support.within_cost in
        elim support.is_met [
          | inl e ↦ e
          | inr (inl e) ↦ let least = at_start none (none_made e.0) stands.kept.begins in let is = e.1 in omega arith
          | inr (inr o) ↦ let least = offered none bound o in omega arith
        ]

    -- ---- how many rows

    pub as_many : length rows ≡ length made
    as_many =
        let more = length_within made sorted made_distinct (λ r. (members r).0) in
        let fewer = length_within sorted made sorted_distinct (λ r. (members r).1) in
        let same = same_length full sorted in
        omega arith

pub cover_rows_are_reached : FloorOfFinish → CoverRowsAreReached
cover_rows_are_reached ends g dag plan finishing budget r i =
    let stands = (cover_search_has ends g dag plan finishing budget).stands in
    let reached = row_reached g dag _ _ stands r i in
    (record { steps = reached.0; play = reached.1.play; ends = reached.1.ends; costs = reached.1.costs }, row_unfinished g dag _ _ stands r i)

pub cover_searched_is_valid : FloorOfFinish → CoverSearchedIsValid
cover_searched_is_valid ends g dag plan finishing budget table are bound support =
    let stands = (cover_search_has ends g dag plan finishing budget).stands in
    subst (λ rs. IsCoverTable g rs bound) (sym are.named)
    (is_cover_table g dag _ (cover_searched g plan budget) stands are.sorted are.rise are.members bound
    (subst (λ rs. IsCoverSupport g rs (cover_searched g plan budget).search.cost bound) are.named support))

pub cover_few_rows_are_optimal : FloorOfFinish → CoverFewRowsAreOptimal
cover_few_rows_are_optimal ends g dag plan finishing budget table are bound support =
    let has = cover_search_has ends g dag plan finishing budget in
    let none = ap length (begun_rows g plan) in
    let many = ap length are.named ∙ as_many g dag _ (cover_searched g plan budget) has.stands are.sorted are.rise are.members in
    record {
      few = elim has.count [ inl all ↦ omega arith | inr few ↦ let most = few.0 in omega arith ];
      fewer = λ less. elim has.count [
        | inl all ↦ absurd (omega arith)
        | inr few ↦
            is_met_by_cost g dag _ (cover_searched g plan budget) has.stands are.sorted are.rise are.members few.1 bound
            (subst (λ rs. IsCoverSupport g rs (cover_searched g plan budget).search.cost bound) are.named support)
      ];
    }

fewer_or_all : (a b : ℕ) → a ≤ b → (a < b) ⊎ (a ≡ b)
fewer_or_all a b h = grind arith

pub cover_open_fills_budget : FloorOfFinish → CoverOpenFillsBudget
cover_open_fills_budget ends g dag plan finishing budget table are bound support less =
    let early = cover_few_rows_are_optimal ends g dag plan finishing budget table are bound support in
    elim (fewer_or_all (length table) budget early.few) [
      | inl fewer ↦ absurd (let met = early.fewer fewer in omega arith)
      | inr all ↦ all
    ]

pub cover_enough_budget_is_optimal : FloorOfFinish → CoverEnoughBudgetIsOptimal
cover_enough_budget_is_optimal ends g dag plan finishing budget enough table are bound support =
    let stands = (cover_search_has ends g dag plan finishing budget).stands in
    let fewer = fewer_unfinished g dag (rows_covered g plan budget) (made_distinct g dag _ (cover_searched g plan budget) stands)
    (row_sound g dag _ (cover_searched g plan budget) stands) (row_unfinished g dag _ (cover_searched g plan budget) stands) in
    let many = ap length are.named ∙ as_many g dag _ (cover_searched g plan budget) stands are.sorted are.rise are.members in
    (cover_few_rows_are_optimal ends g dag plan finishing budget table are bound support).fewer (omega arith)
