-- The next entry gets a mark.
use Rattle.std.proofs.Common.{◌≡◌, ℕ, zero, suc, ◌+◌, ◌≤◌, ◌<◌, ◌==◌, ltb, leb, Bool, true, false, not, ◌&&◌, ◌||◌, List, [], ◌∷◌, ◌++◌, map, length, cond, ◌⊎◌, inl, inr, refl, sym, ap, ◌∙◌, subst, arith}
use Rattle.std.specs.Prelude.{filter, Option, Some, None}
use Rattle.std.specs.List.{list_any}
use Rattle.comp_graph.specs.Games.{PebbleGame}
use Rattle.comp_graph.specs.Dags.{IsDag}
use Rattle.pebble_rules.specs.declared.position.Position.{Position}
use Rattle.pebble_rules.specs.Rules.{start}
use Rattle.normal_steps.specs.Steps.{stepped, step_cost, finish_cost}
use Rattle.normal_steps.specs.declared.step.Step.{Step}
use Rattle.pebble_rules.proofs.Possible.{true_or_false}
use Rattle.comp_graph.proofs.DagLaws.{both, and-true}
use Rattle.comp_graph.specs.Lists.{IsIn}
use Rattle.forced_bounds.specs.Floor.{floor}
use Rattle.search_laws.specs.Steps.{same_position}
use Rattle.normal_steps.specs.StepTests.{can_finish}
use Rattle.search_laws.specs.Search.{Mark, waiting, expanded, given_up, is_waiting, is_expanded, Entry, Search, next_waiting, marked_at, has_within, without, tried, becomes_row, is_beaten, give_up}
use Rattle.search_laws.specs.Buckets.{bucket}
use Rattle.search_laws.specs.Standing.{IsNext}
use Rattle.search_laws.proofs.Lists.{in_left, in_right, append_cases, in_map, map_in, filter_in, in_filter, any_in, in_any}
use Rattle.search_laws.proofs.Tests.{same_position_true, true_same_position, leb_true, true_leb}
use Rattle.search_laws.proofs.Entries.{MarkCases, marked_in, in_marked, NoneWaits, NextCases, next_cases}
use Rattle.search_laws.proofs.Buckets.{next_is_first_of_bucket, each_bucket_follows}
use Rattle.search_laws.specs.Packing.{Place, Store, Best, entry_of, entry_at, is_live, IsChild, IsBest, Packs, IsPopped, IsSamePlaces, IsMarked, IsPut}
use Rattle.search_laws.proofs.Queues.{refilter, filter_map, filter_append, map_append, same_filter, decide, append_none, in_popped, left_over, first_is_next, none_is_next, marked_search, remarked, is_elsewhere, elsewhere, not_same, is_same, bucket_elsewhere, not_waiting, waiting_is_no_row}

module _ (g : PebbleGame) (first : List Step) (a b : Store) (best : Best) (plays : ℕ → List Step) (t : Search) (packs : Packs g first a best plays t) (c k : ℕ) (popped : IsPopped a b c k)
    (m : Mark) (marked : IsMarked a b k m) (stops : is_waiting m ≡ false) (live : is_live a c k ≡ true) where
  abbrev q : Position
  q = (a.at k).position

  k_within : k < a.size
  k_within = (packs.below c k (subst (λ ks. IsIn k ks) (sym popped.head) (inl refl))).0

  waits : is_waiting (a.at k).mark ≡ true
  waits = (both (is_waiting (a.at k).mark) ((a.at k).cost == c) live).0

  no_row : (j : ℕ) → is_expanded (a.at j).mark ≡ true → j ≡ k → ⊥
  no_row j row same = waiting_is_no_row (a.at k).mark waits (subst (λ j. is_expanded (a.at j).mark ≡ true) same row)

  within_a : (j : ℕ) → j < b.size → j < a.size
  within_a j h = subst (λ n. j < n) marked.size h

  within_b : (j : ℕ) → j < a.size → j < b.size
  within_b j h = subst (λ n. j < n) (sym marked.size) h

  -- all but the mark stays
  each : (P : Place → Type 0) → (j : ℕ) → P (a.at j) → (P (a.at k) → P (record (a.at k) { mark = m })) → P (b.at j)
  each P j old new = elim (decide j k) [
    | inl same ↦ subst (λ j. P (b.at j)) (sym same) (subst P (sym marked.here) (new (subst (λ j. P (a.at j)) same old)))
    | inr other ↦ subst P (sym (marked.same j other)) old
  ]

  still_row : (j : ℕ) → is_expanded (a.at j).mark ≡ true → is_expanded (b.at j).mark ≡ true
  still_row j row = subst (λ p. is_expanded p.mark ≡ true) (sym (marked.same j (no_row j row))) row

  entry_here : entry_at b plays k ≡ record (entry_at a plays k) { mark = m }
  entry_here = ap (λ p. entry_of p (plays k)) marked.here

  entry_other : (j : ℕ) → (j ≡ k → ⊥) → entry_at b plays j ≡ entry_at a plays j
  entry_other j other = ap (λ p. entry_of p (plays j)) (marked.same j other)

  placed_now : (j : ℕ) → j < a.size → IsIn (entry_at b plays j) (marked_at m q t.entries)
  placed_now j h =
      let f = in_marked m q t.entries (entry_at a plays j) (packs.placed j h) in
      by_case f.0 f.1 f.2 (decide j k)
    where
      by_case : (f : Entry) → IsIn f (marked_at m q t.entries) → MarkCases m q (entry_at a plays j) f → (j ≡ k) ⊎ (j ≡ k → ⊥) → IsIn (entry_at b plays j) (marked_at m q t.entries)
      by_case f i (inl is) (inl same) =
          subst (λ j. IsIn (entry_at b plays j) (marked_at m q t.entries)) (sym same)
          (subst (λ e. IsIn e (marked_at m q t.entries)) (is.1 ∙ ap (λ j. record (entry_at a plays j) { mark = m }) same ∙ sym entry_here) i)
      by_case f i (inl is) (inr other) = absurd (other (packs.apart j k h k_within is.0))
      by_case f i (inr is) (inl same) = absurd (is.0 (ap (λ j. (a.at j).position) same))
      by_case f i (inr is) (inr other) = subst (λ e. IsIn e (marked_at m q t.entries)) (is.1 ∙ sym (entry_other j other)) i

  entered_now : (e : Entry) → IsIn e (marked_at m q t.entries) → (j : ℕ) × (j < b.size) × (e ≡ entry_at b plays j)
  entered_now e i =
      let x = marked_in m q t.entries e i in
      let y = packs.entered x.0 x.1 in
      by_case x.0 x.2 y.0 y.1 y.2
    where
      by_case : (x : Entry) → MarkCases m q x e → (j : ℕ) → j < a.size → x ≡ entry_at a plays j → (j : ℕ) × (j < b.size) × (e ≡ entry_at b plays j)
      by_case x (inl is) j h same =
          let here = packs.apart j k h k_within (sym (ap (λ e. e.position) same) ∙ is.0) in
          (k, within_b k k_within, is.1 ∙ ap (remarked m) (same ∙ ap (entry_at a plays) here) ∙ sym entry_here)
      by_case x (inr is) j h same =
          let other : j ≡ k → ⊥ = λ here. is.0 (ap (λ e. e.position) same ∙ ap (λ j. (a.at j).position) here) in
          (j, within_b j h, is.1 ∙ same ∙ sym (entry_other j other))

  not_live_now : (d : ℕ) → is_live b d k ≡ false
  not_live_now d = ap (λ p. is_waiting p.mark && (p.cost == d)) marked.here ∙ not_waiting m (a.at k).cost d stops

  queued_now : (d : ℕ) → bucket d (marked_at m q t.entries) ≡ map (entry_at b plays) (filter (is_live b d) (b.queue d))
  queued_now d =
      (each_bucket_follows d t.entries).marked m q stops ∙ ap (λ es. without es q) (packs.queued d) ∙ bucket_elsewhere a plays q (is_live a d) (a.queue d)
      ∙ refilter (is_elsewhere a q) (is_live a d) (is_live b d) (entry_at a plays) (entry_at b plays) (a.queue d) now
      ∙ ap (map (entry_at b plays)) (left_over g first a b best plays t packs c k popped (is_live b) (not_live_now c) d)
    where
      now : (j : ℕ) → IsIn j (a.queue d) → ((is_live b d j ≡ false) × (is_elsewhere a q j ≡ false)) ⊎ ((is_live b d j ≡ is_live a d j) × (is_elsewhere a q j ≡ true) × (entry_at b plays j ≡ entry_at a plays j))
      now j i = elim (decide j k) [
        | inl same ↦ inl (ap (is_live b d) same ∙ not_live_now d, is_same _ _ (ap (λ j. (a.at j).position) same))
        | inr other ↦ inr (ap (λ p. is_waiting p.mark && (p.cost == d)) (marked.same j other), not_same _ _ (λ is. other (packs.apart j k (packs.below d j i).0 k_within is)), entry_other j other)
      ]

  place_of : (j : ℕ) → (b.at j).position ≡ (a.at j).position
  place_of j = each (λ p. p.position ≡ (a.at j).position) j refl (λ h. h)

  child_now : (j : ℕ) → IsChild a plays j → IsChild b plays j
  child_now j is = record {
    parent = within_b _ (each (λ p. p.parent < a.size) j is.parent (λ h. h));
    is_row = each (λ p. is_expanded (b.at p.parent).mark ≡ true) j (still_row (a.at j).parent is.is_row) (λ h. h);
    play = each (λ p. plays j ≡ plays p.parent ++ p.step ∷ []) j is.play (λ h. h);
  }

  plan_now : (from : Option ℕ) → IsBest first a plays from best.step t.plan → IsBest first b plays from best.step t.plan
  plan_now None is = is
  plan_now (Some r) is = (within_b r is.0, still_row r is.1, is.2)

  pub next_marked : Packs g first b best plays (marked_search m q t)
  next_marked = record {
    placed = λ j h. placed_now j (within_a j h);
    entered = entered_now;
    apart = λ i j hi hj is. packs.apart i j (within_a i hi) (within_a j hj) (sym (place_of i) ∙ is ∙ place_of j);
    queued = queued_now;
    below = λ d j i. let old = packs.below d j (in_popped g first a b best plays t packs c k popped d j i) in (within_b j old.0, each (λ p. p.cost ≤ d) j old.1 (λ h. h));
    floors = λ j h. each (λ p. p.floor ≡ floor g p.position) j (packs.floors j (within_a j h)) (λ h. h);
    unfinished = λ j h. each (λ p. can_finish g p.position ≡ false) j (packs.unfinished j (within_a j h)) (λ h. h);
    begins = packs.begins;
    free = λ some. each (λ p. p.cost ≡ 0) 0 (packs.free (within_a 0 some)) (λ h. h);
    child = λ j some h. child_now j (packs.child j some (within_a j h));
    cost = packs.cost;
    plan = plan_now best.from packs.plan;
  }
