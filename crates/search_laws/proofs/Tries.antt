-- A step is tried.
use Rattle.std.proofs.Common.{◌≡◌, ℕ, zero, suc, ◌+◌, ◌≤◌, ◌<◌, ◌==◌, ltb, leb, Bool, true, false, not, ◌&&◌, ◌||◌, List, [], ◌∷◌, ◌++◌, map, length, cond, ◌⊎◌, inl, inr, refl, sym, ap, ◌∙◌, subst, arith}
use Rattle.std.specs.Prelude.{filter, Option, Some, None}
use Rattle.std.specs.List.{list_any}
use Rattle.comp_graph.specs.Games.{PebbleGame}
use Rattle.comp_graph.specs.Dags.{IsDag}
use Rattle.pebble_rules.specs.declared.position.Position.{Position}
use Rattle.pebble_rules.specs.Rules.{start}
use Rattle.normal_steps.specs.Steps.{stepped, step_cost, finish_cost}
use Rattle.normal_steps.specs.declared.step.Step.{Step}
use Rattle.pebble_rules.proofs.Possible.{true_or_false}
use Rattle.comp_graph.proofs.DagLaws.{both, and-true}
use Rattle.comp_graph.specs.Lists.{IsIn}
use Rattle.forced_bounds.specs.Floor.{floor}
use Rattle.search_laws.specs.Steps.{same_position}
use Rattle.normal_steps.specs.StepTests.{can_finish}
use Rattle.search_laws.specs.Search.{Mark, waiting, expanded, given_up, is_waiting, is_expanded, Entry, Search, next_waiting, marked_at, has_within, without, tried, becomes_row, is_beaten, give_up}
use Rattle.search_laws.specs.Buckets.{bucket}
use Rattle.search_laws.specs.Standing.{IsNext}
use Rattle.search_laws.proofs.Lists.{in_left, in_right, append_cases, in_map, map_in, filter_in, in_filter, any_in, in_any}
use Rattle.search_laws.proofs.Tests.{same_position_true, true_same_position, leb_true, true_leb}
use Rattle.search_laws.proofs.Entries.{MarkCases, marked_in, in_marked, NoneWaits, NextCases, next_cases}
use Rattle.search_laws.proofs.Buckets.{next_is_first_of_bucket, each_bucket_follows}
use Rattle.search_laws.specs.Packing.{Place, Store, Best, entry_of, entry_at, is_live, IsChild, IsBest, Packs, IsPopped, IsSamePlaces, IsMarked, IsPut}
use Rattle.search_laws.proofs.Queues.{refilter, filter_map, filter_append, map_append, same_filter, decide, append_none, in_popped, left_over, first_is_next, none_is_next, marked_search, remarked, is_elsewhere, elsewhere, not_same, is_same, bucket_elsewhere, not_waiting, waiting_is_no_row}

-- ---- a step is tried

tried_passed : (g : PebbleGame) (play : List Step) (q : Position) (h : ℕ) (t : Search) → (leb t.cost (h + floor g q) || has_within t.entries q h) ≡ true → tried g play q h t ≡ t
unfolding tried
tried_passed g play q h t why =
    ap (λ b. cond b t (cond (can_finish g q)
    (record { plan = play; cost = h + finish_cost g q; entries = t.entries })
    (record { plan = t.plan; cost = t.cost; entries = without t.entries q ++ record { position = q; cost = h; play = play; mark = waiting } ∷ [] }))) why

tried_finished : (g : PebbleGame) (play : List Step) (q : Position) (h : ℕ) (t : Search) → (leb t.cost (h + floor g q) || has_within t.entries q h) ≡ false → can_finish g q ≡ true
    → tried g play q h t ≡ record { plan = play; cost = h + finish_cost g q; entries = t.entries }
unfolding tried
tried_finished g play q h t why can =
    ap (λ b. cond b t (cond (can_finish g q)
    (record { plan = play; cost = h + finish_cost g q; entries = t.entries })
    (record { plan = t.plan; cost = t.cost; entries = without t.entries q ++ record { position = q; cost = h; play = play; mark = waiting } ∷ [] }))) why
    ∙ ap (λ b. cond b
    (record { plan = play; cost = h + finish_cost g q; entries = t.entries })
    (record { plan = t.plan; cost = t.cost; entries = without t.entries q ++ record { position = q; cost = h; play = play; mark = waiting } ∷ [] })) can

tried_added : (g : PebbleGame) (play : List Step) (q : Position) (h : ℕ) (t : Search) → (leb t.cost (h + floor g q) || has_within t.entries q h) ≡ false → can_finish g q ≡ false
    → tried g play q h t ≡ record { plan = t.plan; cost = t.cost; entries = without t.entries q ++ record { position = q; cost = h; play = play; mark = waiting } ∷ [] }
unfolding tried
tried_added g play q h t why can =
    ap (λ b. cond b t (cond (can_finish g q)
    (record { plan = play; cost = h + finish_cost g q; entries = t.entries })
    (record { plan = t.plan; cost = t.cost; entries = without t.entries q ++ record { position = q; cost = h; play = play; mark = waiting } ∷ [] }))) why
    ∙ ap (λ b. cond b
    (record { plan = play; cost = h + finish_cost g q; entries = t.entries })
    (record { plan = t.plan; cost = t.cost; entries = without t.entries q ++ record { position = q; cost = h; play = play; mark = waiting } ∷ [] })) can

either_true : (a b : Bool) → (a ≡ true) ⊎ (b ≡ true) → (a || b) ≡ true
either_true a b (inl h) = grind arith
either_true a b (inr h) = grind arith

both_false : (a b : Bool) → a ≡ false → b ≡ false → (a || b) ≡ false
both_false a b h i = grind arith

module _ (g : PebbleGame) (first : List Step) (a : Store) (best : Best) (plays : ℕ → List Step) (t : Search) (packs : Packs g first a best plays t) (play : List Step) (q : Position) (h : ℕ) where
  is_beaten_by : best.cost ≤ h + floor g q → leb t.cost (h + floor g q) ≡ true
  is_beaten_by beaten = let cost = packs.cost in grind arith

  is_better : h + floor g q < best.cost → leb t.cost (h + floor g q) ≡ false
  is_better better = let cost = packs.cost in grind arith

  -- no play through the step beats the plan
  pub beaten_step : best.cost ≤ h + floor g q → tried g play q h t ≡ t
  beaten_step beaten = tried_passed g play q h t (either_true _ _ (inl (is_beaten_by beaten)))

  has_place : (k : ℕ) → k < a.size → (a.at k).position ≡ q → (a.at k).cost ≤ h → has_within t.entries q h ≡ true
  has_place k within same cheap =
      in_any (λ e. same_position e.position q && leb e.cost h) (entry_at a plays k) t.entries (packs.placed k within)
      (and-true _ _ (true_same_position (a.at k).position q same) (true_leb _ _ cheap))

  -- the position has an entry that costs no more
  pub known_step : (k : ℕ) → k < a.size → (a.at k).position ≡ q → (a.at k).cost ≤ h → tried g play q h t ≡ t
  known_step k within same cheap = tried_passed g play q h t (either_true _ _ (inr (has_place k within same cheap)))

  no_place : ((k : ℕ) → k < a.size → (a.at k).position ≡ q → h < (a.at k).cost) → has_within t.entries q h ≡ false
  no_place dearer = elim (true_or_false (has_within t.entries q h)) [
    | inl has ↦
        let e = any_in (λ e. same_position e.position q && leb e.cost h) t.entries has in
        let parts = both (same_position e.0.position q) (leb e.0.cost h) e.2 in
        let x = packs.entered e.0 e.1 in
        let more = dearer x.0 x.1 (sym (ap (λ e. e.position) x.2) ∙ same_position_true e.0.position q parts.0) in
        let less = leb_true _ _ parts.1 in
        let costs = ap (λ e. e.cost) x.2 in
        absurd (omega arith)
    | inr none ↦ none
  ]

  -- the step leads to a better plan
  pub finishing_step : h + floor g q < best.cost → can_finish g q ≡ true → tried g play q h t ≡ record { plan = play; cost = h + finish_cost g q; entries = t.entries }
  finishing_step better can = tried_finished g play q h t (both_false _ _ (is_better better) (no_place (λ k within same. absurd (let un = packs.unfinished k within in let at = ap (can_finish g) same in grind arith)))) can

  -- the step leads to an entry
  pub adding_step : h + floor g q < best.cost → ((k : ℕ) → k < a.size → (a.at k).position ≡ q → h < (a.at k).cost) → can_finish g q ≡ false
      → tried g play q h t ≡ record { plan = t.plan; cost = t.cost; entries = without t.entries q ++ record { position = q; cost = h; play = play; mark = waiting } ∷ [] }
  adding_step better dearer cannot = tried_added g play q h t (both_false _ _ (is_better better) (no_place dearer)) cannot

-- a better plan is noted
pub plan_noted : (g : PebbleGame) (first : List Step) (a : Store) (best : Best) (plays : ℕ → List Step) (t : Search) → Packs g first a best plays t
    → (parent : ℕ) (step : Step) (cost : ℕ) → parent < a.size → is_expanded (a.at parent).mark ≡ true
    → Packs g first a (record { cost = cost; from = Some parent; step = step }) plays (record { plan = plays parent ++ step ∷ []; cost = cost; entries = t.entries })
plan_noted g first a best plays t packs parent step cost within row = record {
  placed = packs.placed;
  entered = packs.entered;
  apart = packs.apart;
  queued = packs.queued;
  below = packs.below;
  floors = packs.floors;
  unfinished = packs.unfinished;
  begins = packs.begins;
  free = packs.free;
  child = packs.child;
  cost = refl;
  plan = (within, row, refl);
}
