-- A step puts a place.
use Rattle.std.proofs.Common.{◌≡◌, ℕ, zero, suc, ◌+◌, ◌≤◌, ◌<◌, ◌==◌, ltb, leb, Bool, true, false, not, ◌&&◌, ◌||◌, List, [], ◌∷◌, ◌++◌, map, length, cond, ◌⊎◌, inl, inr, refl, sym, ap, ◌∙◌, subst, arith}
use Rattle.std.specs.Prelude.{filter, Option, Some, None}
use Rattle.std.specs.List.{list_any}
use Rattle.comp_graph.specs.Games.{PebbleGame}
use Rattle.comp_graph.specs.Dags.{IsDag}
use Rattle.pebble_rules.specs.declared.position.Position.{Position}
use Rattle.pebble_rules.specs.Rules.{start}
use Rattle.normal_steps.specs.Steps.{stepped, step_cost, finish_cost}
use Rattle.normal_steps.specs.declared.step.Step.{Step}
use Rattle.pebble_rules.proofs.Possible.{true_or_false}
use Rattle.comp_graph.proofs.DagLaws.{both, and-true}
use Rattle.comp_graph.specs.Lists.{IsIn}
use Rattle.forced_bounds.specs.Floor.{floor}
use Rattle.search_laws.specs.Steps.{same_position}
use Rattle.normal_steps.specs.StepTests.{can_finish}
use Rattle.search_laws.specs.Search.{Mark, waiting, expanded, given_up, is_waiting, is_expanded, Entry, Search, next_waiting, marked_at, has_within, without, tried, becomes_row, is_beaten, give_up}
use Rattle.search_laws.specs.Buckets.{bucket}
use Rattle.search_laws.specs.Standing.{IsNext}
use Rattle.search_laws.proofs.Lists.{in_left, in_right, append_cases, in_map, map_in, filter_in, in_filter, any_in, in_any}
use Rattle.search_laws.proofs.Tests.{same_position_true, true_same_position, leb_true, true_leb}
use Rattle.search_laws.proofs.Entries.{MarkCases, marked_in, in_marked, NoneWaits, NextCases, next_cases}
use Rattle.search_laws.proofs.Buckets.{next_is_first_of_bucket, each_bucket_follows}
use Rattle.search_laws.specs.Packing.{Place, Store, Best, entry_of, entry_at, is_live, IsChild, IsBest, Packs, IsPopped, IsSamePlaces, IsMarked, IsPut}
use Rattle.search_laws.proofs.Queues.{refilter, filter_map, filter_append, map_append, same_filter, decide, append_none, in_popped, left_over, first_is_next, none_is_next, marked_search, remarked, is_elsewhere, elsewhere, not_same, is_same, bucket_elsewhere, not_waiting, waiting_is_no_row}

-- ---- a place is put

-- what is asked of the place that a step puts
pub record CanPut (g : PebbleGame) (a : Store) (k : ℕ) (p : Place) : Type 0 where
  pub not_first : 0 < k
  pub waits : p.mark ≡ waiting
  pub mine : (j : ℕ) → j < a.size → (a.at j).position ≡ p.position → j ≡ k
  pub was : k < a.size → (a.at k).position ≡ p.position
  pub dearer : k < a.size → p.cost < (a.at k).cost
  pub no_row : k < a.size → is_expanded (a.at k).mark ≡ false
  pub floor : p.floor ≡ floor g p.position
  pub cannot : can_finish g p.position ≡ false
  pub parent : p.parent < a.size
  pub is_row : is_expanded (a.at p.parent).mark ≡ true

module _ (g : PebbleGame) (first : List Step) (a b : Store) (best : Best) (plays : ℕ → List Step) (t : Search) (packs : Packs g first a best plays t) (k : ℕ) (p : Place) (put : IsPut a b k p) (can : CanPut g a k p) where
  abbrev new_play : List Step
  new_play = plays p.parent ++ p.step ∷ []

  abbrev pub plays_after : ℕ → List Step
  plays_after j = cond (j == k) new_play (plays j)

  play_here : plays_after k ≡ new_play
  play_here = let same : (k == k) ≡ true = grind arith in ap (λ b. cond b new_play (plays k)) same

  pub play_other : (j : ℕ) → (j ≡ k → ⊥) → plays_after j ≡ plays j
  play_other j other = let differ : (j == k) ≡ false = elim (true_or_false (j == k)) [ inl is ↦ absurd (other (grind arith)) | inr no_is ↦ no_is ] in ap (λ b. cond b new_play (plays j)) differ

  abbrev new_entry : Entry
  new_entry = record { position = p.position; cost = p.cost; play = new_play; mark = waiting }

  abbrev entries_after : List Entry
  entries_after = without t.entries p.position ++ new_entry ∷ []

  entry_here : entry_at b plays_after k ≡ new_entry
  entry_here = ap (λ x. entry_of x (plays_after k)) put.here ∙ ap (entry_of p) play_here ∙ ap (λ m. record new_entry { mark = m }) can.waits

  entry_other : (j : ℕ) → (j ≡ k → ⊥) → entry_at b plays_after j ≡ entry_at a plays j
  entry_other j other = ap (λ x. entry_of x (plays_after j)) (put.same j other) ∙ ap (entry_of (a.at j)) (play_other j other)

  each : (P : Place → Type 0) → (j : ℕ) → ((j ≡ k → ⊥) → P (a.at j)) → (j ≡ k → P p) → P (b.at j)
  each P j old new = elim (decide j k) [
    | inl same ↦ subst (λ j. P (b.at j)) (sym same) (subst P (sym put.here) (new same))
    | inr other ↦ subst P (sym (put.same j other)) (old other)
  ]

  parent_other : (j : ℕ) → j < a.size → is_expanded (a.at j).mark ≡ true → j ≡ k → ⊥
  parent_other j h row same =
      let none = can.no_row (subst (λ j. j < a.size) same h) in
      let here = subst (λ j. is_expanded (a.at j).mark ≡ true) same row in
      grind arith

  still_row : (j : ℕ) → j < a.size → is_expanded (a.at j).mark ≡ true → is_expanded (b.at j).mark ≡ true
  still_row j h row = subst (λ x. is_expanded x.mark ≡ true) (sym (put.same j (parent_other j h row))) row

  placed_now : (j : ℕ) → j < b.size → IsIn (entry_at b plays_after j) entries_after
  placed_now j h = elim (decide j k) [
    | inl same ↦
        subst (λ j. IsIn (entry_at b plays_after j) entries_after) (sym same)
        (in_right _ (without t.entries p.position) (new_entry ∷ []) (inl entry_here))
    | inr other ↦
        let old = put.old j h other in
        subst (λ e. IsIn e entries_after) (sym (entry_other j other))
        (in_left _ (without t.entries p.position) (new_entry ∷ [])
        (in_filter (elsewhere p.position) (entry_at a plays j) t.entries (packs.placed j old) (not_same _ _ (λ is. other (can.mine j old is)))))
  ]

  entered_now : (e : Entry) → IsIn e entries_after → (j : ℕ) × (j < b.size) × (e ≡ entry_at b plays_after j)
  entered_now e i = elim (append_cases e (without t.entries p.position) (new_entry ∷ []) i) [
    | inl old ↦
        let is = filter_in (elsewhere p.position) e t.entries old in
        let x = packs.entered e is.0 in
        old_entry x.0 x.1 x.2 is.1
    | inr last ↦ (k, put.within, last_in last ∙ sym entry_here)
  ]
    where
      last_in : IsIn e (new_entry ∷ []) → e ≡ new_entry
      last_in (inl same) = same
      last_in (inr i) = absurd i

      old_entry : (j : ℕ) → j < a.size → e ≡ entry_at a plays j → not (same_position e.position p.position) ≡ true → (j : ℕ) × (j < b.size) × (e ≡ entry_at b plays_after j)
      old_entry j h same apart =
          let other : j ≡ k → ⊥ = λ here.
          let at = can.was (subst (λ j. j < a.size) here h) in
          let is = is_same e.position p.position (ap (λ e. e.position) same ∙ ap (λ j. (a.at j).position) here ∙ at) in
          grind arith in
          (j, put.grows j h, same ∙ sym (entry_other j other))

  apart_now : (i j : ℕ) → i < b.size → j < b.size → (b.at i).position ≡ (b.at j).position → i ≡ j
  apart_now i j hi hj is = elim (decide i k) [
    | inl first_is ↦ elim (decide j k) [
      | inl second ↦ first_is ∙ sym second
      | inr other ↦
          absurd (other (can.mine j (put.old j hj other) (sym (ap (λ x. x.position) (put.same j other)) ∙ sym is ∙ ap (λ i. (b.at i).position) first_is ∙ ap (λ x. x.position) put.here)))
    ]
    | inr other_i ↦ elim (decide j k) [
      | inl second ↦
          absurd (other_i (can.mine i (put.old i hi other_i) (sym (ap (λ x. x.position) (put.same i other_i)) ∙ is ∙ ap (λ j. (b.at j).position) second ∙ ap (λ x. x.position) put.here)))
      | inr other ↦
          packs.apart i j (put.old i hi other_i) (put.old j hj other) (sym (ap (λ x. x.position) (put.same i other_i)) ∙ is ∙ ap (λ x. x.position) (put.same j other))
    ]
  ]

  -- a place that is put anew stands in no queue of its new cost
  not_queued : (c : ℕ) → IsIn k (a.queue c) → c ≡ p.cost → ⊥
  not_queued c i same = let old = packs.below c k i in let more = can.dearer old.0 in let most = old.1 in omega arith

  not_live_now : (c : ℕ) → (c ≡ p.cost → ⊥) → is_live b c k ≡ false
  not_live_now c other = ap (λ x. is_waiting x.mark && (x.cost == c)) put.here ∙ (let differ : (p.cost == c) ≡ false = elim (true_or_false (p.cost == c)) [ inl is ↦ absurd (other (grind arith)) | inr no_is ↦ no_is ] in no_and (is_waiting p.mark) (p.cost == c) differ)
    where
      no_and : (x y : Bool) → y ≡ false → (x && y) ≡ false
      no_and x y h = grind arith

  live_now : is_live b p.cost k ≡ true
  live_now = ap (λ x. is_waiting x.mark && (x.cost == p.cost)) put.here ∙ and-true (is_waiting p.mark) (p.cost == p.cost) (ap is_waiting can.waits) (grind arith)

  others_stay : (c : ℕ) → map (entry_at a plays) (filter (is_elsewhere a p.position) (filter (is_live a c) (a.queue c))) ≡ map (entry_at b plays_after) (filter (is_live b c) (a.queue c))
  others_stay c = refilter (is_elsewhere a p.position) (is_live a c) (is_live b c) (entry_at a plays) (entry_at b plays_after) (a.queue c) now
    where
      now : (j : ℕ) → IsIn j (a.queue c)
          → ((is_live b c j ≡ false) × (is_elsewhere a p.position j ≡ false)) ⊎ ((is_live b c j ≡ is_live a c j) × (is_elsewhere a p.position j ≡ true) × (entry_at b plays_after j ≡ entry_at a plays j))
      now j i = elim (decide j k) [
        | inl same ↦
            let here = subst (λ j. IsIn j (a.queue c)) same i in
            inl (ap (is_live b c) same ∙ not_live_now c (not_queued c here), is_same _ _ (ap (λ j. (a.at j).position) same ∙ can.was (packs.below c k here).0))
        | inr other ↦ inr (ap (λ x. is_waiting x.mark && (x.cost == c)) (put.same j other), not_same _ _ (λ is. other (can.mine j (packs.below c j i).0 is)), entry_other j other)
      ]

  old_bucket : (c : ℕ) → bucket c entries_after ≡ map (entry_at b plays_after) (filter (is_live b c) (a.queue c)) ++ cond (true && (p.cost == c)) (new_entry ∷ []) []
  old_bucket c =
      (each_bucket_follows c (without t.entries p.position)).pushed new_entry
      ∙ ap (λ xs. xs ++ cond (true && (p.cost == c)) (new_entry ∷ []) [])
      ((each_bucket_follows c t.entries).left p.position ∙ ap (λ es. without es p.position) (packs.queued c) ∙ bucket_elsewhere a plays p.position (is_live a c) (a.queue c) ∙ others_stay c)

  queued_now : (c : ℕ) → bucket c entries_after ≡ map (entry_at b plays_after) (filter (is_live b c) (b.queue c))
  queued_now c = elim (decide c p.cost) [
    | inl same ↦ subst (λ c. bucket c entries_after ≡ map (entry_at b plays_after) (filter (is_live b c) (b.queue c))) (sym same) at_cost
    | inr other ↦
        old_bucket c ∙ ap (λ x. map (entry_at b plays_after) (filter (is_live b c) (a.queue c)) ++ cond (true && x) (new_entry ∷ []) []) (differs other)
        ∙ append_none _ ∙ ap (λ ks. map (entry_at b plays_after) (filter (is_live b c) ks)) (sym (put.others c other))
  ]
    where
      differs : (c ≡ p.cost → ⊥) → (p.cost == c) ≡ false
      differs other = elim (true_or_false (p.cost == c)) [ inl is ↦ absurd (other (grind arith)) | inr no_is ↦ no_is ]

      one_more : filter (is_live b p.cost) (a.queue p.cost ++ k ∷ []) ≡ filter (is_live b p.cost) (a.queue p.cost) ++ k ∷ []
      one_more = filter_append (is_live b p.cost) (a.queue p.cost) (k ∷ []) ∙ ap (λ x. filter (is_live b p.cost) (a.queue p.cost) ++ cond x (k ∷ []) []) live_now

      at_cost : bucket p.cost entries_after ≡ map (entry_at b plays_after) (filter (is_live b p.cost) (b.queue p.cost))
      at_cost =
          let itself : (p.cost == p.cost) ≡ true = grind arith in
          old_bucket p.cost ∙ ap (λ x. map (entry_at b plays_after) (filter (is_live b p.cost) (a.queue p.cost)) ++ cond (true && x) (new_entry ∷ []) []) itself
          ∙ ap (λ e. map (entry_at b plays_after) (filter (is_live b p.cost) (a.queue p.cost)) ++ e ∷ []) (sym entry_here)
          ∙ sym (map_append (entry_at b plays_after) (filter (is_live b p.cost) (a.queue p.cost)) (k ∷ []))
          ∙ ap (map (entry_at b plays_after)) (sym one_more) ∙ ap (λ ks. map (entry_at b plays_after) (filter (is_live b p.cost) ks)) (sym put.pushed)

  old_below : (c j : ℕ) → IsIn j (a.queue c) → (j < b.size) × ((b.at j).cost ≤ c)
  old_below c j i =
      let old = packs.below c j i in
      (put.grows j old.0, each (λ x. x.cost ≤ c) j (λ other. old.1) (λ same. let more = can.dearer (subst (λ j. j < a.size) same old.0) in let was = subst (λ j. (a.at j).cost ≤ c) same old.1 in omega arith))

  below_now : (c j : ℕ) → IsIn j (b.queue c) → (j < b.size) × ((b.at j).cost ≤ c)
  below_now c j i = elim (decide c p.cost) [
    | inl same ↦ elim (append_cases j (a.queue p.cost) (k ∷ []) (subst (λ ks. IsIn j ks) put.pushed (subst (λ c. IsIn j (b.queue c)) same i))) [
      | inl old ↦ old_below c j (subst (λ c. IsIn j (a.queue c)) (sym same) old)
      | inr last ↦ at_last c same j last
    ]
    | inr other ↦ old_below c j (subst (λ ks. IsIn j ks) (put.others c other) i)
  ]
    where
      at_last : (c : ℕ) → c ≡ p.cost → (j : ℕ) → IsIn j (k ∷ []) → (j < b.size) × ((b.at j).cost ≤ c)
      at_last c same j (inl is) = (subst (λ j. j < b.size) (sym is) put.within, each (λ x. x.cost ≤ c) j (λ other. absurd (other is)) (λ here. omega arith))
      at_last c same j (inr i) = absurd i

  child_now : (j : ℕ) → 0 < j → j < b.size → IsChild b plays_after j
  child_now j some h = record {
    parent = each (λ x. x.parent < b.size) j (λ other. put.grows _ (old_child other).parent) (λ same. put.grows _ can.parent);
    is_row = each (λ x. is_expanded (b.at x.parent).mark ≡ true) j (λ other. still_row _ (old_child other).parent (old_child other).is_row) (λ same. still_row _ can.parent can.is_row);
    play = each (λ x. plays_after j ≡ plays_after x.parent ++ x.step ∷ []) j
        (λ other. play_other j other ∙ (old_child other).play ∙ ap (λ play. play ++ (a.at j).step ∷ []) (sym (play_other _ (parent_other _ (old_child other).parent (old_child other).is_row))))
        (λ same. ap plays_after same ∙ play_here ∙ ap (λ play. play ++ p.step ∷ []) (sym (play_other _ (parent_other _ can.parent can.is_row))));
  }
    where
      old_child : (j ≡ k → ⊥) → IsChild a plays j
      old_child other = packs.child j some (put.old j h other)

  plan_now : (from : Option ℕ) → IsBest first a plays from best.step t.plan → IsBest first b plays_after from best.step t.plan
  plan_now None is = is
  plan_now (Some r) is = (put.grows r is.0, still_row r is.0 is.1, is.2 ∙ ap (λ play. play ++ best.step ∷ []) (sym (play_other r (parent_other r is.0 is.1))))

  not_zero : 0 ≡ k → ⊥
  not_zero same = let some = can.not_first in omega arith

  pub place_put : Packs g first b best plays_after (record { plan = t.plan; cost = t.cost; entries = entries_after })
  place_put = record {
    placed = placed_now;
    entered = entered_now;
    apart = apart_now;
    queued = queued_now;
    below = below_now;
    floors = λ j h. each (λ x. x.floor ≡ floor g x.position) j (λ other. packs.floors j (put.old j h other)) (λ same. can.floor);
    unfinished = λ j h. each (λ x. can_finish g x.position ≡ false) j (λ other. packs.unfinished j (put.old j h other)) (λ same. can.cannot);
    begins = play_other 0 not_zero ∙ packs.begins;
    free = λ some. each (λ x. x.cost ≡ 0) 0 (λ other. packs.free (put.old 0 some other)) (λ same. absurd (not_zero same));
    child = child_now;
    cost = packs.cost;
    plan = plan_now best.from packs.plan;
  }
