-- The next entry is chosen.
use Rattle.std.proofs.Common.{◌≡◌, ℕ, zero, suc, ◌+◌, ◌≤◌, ◌<◌, ◌==◌, ltb, leb, Bool, true, false, ◌&&◌, List, [], ◌∷◌, ◌++◌, map, length, cond, ◌⊎◌, inl, inr, refl, sym, ap, ◌∙◌, subst, arith}
use Rattle.std.specs.Prelude.{fold, filter, Option, Some, None}
use Rattle.comp_graph.specs.Games.{PebbleGame}
use Rattle.comp_graph.specs.Dags.{IsDag}
use Rattle.pebble_rules.specs.declared.position.Position.{Position}
use Rattle.normal_steps.specs.declared.step.Step.{Step}
use Rattle.comp_graph.proofs.DagLaws.{both}
use Rattle.comp_graph.specs.Lists.{IsIn}
use Rattle.forced_bounds.specs.Floor.{floor}
use Rattle.normal_steps.specs.StepTests.{can_finish}
use Rattle.search_laws.specs.Search.{Mark, waiting, expanded, given_up, is_waiting, is_expanded, Entry, Search, next_waiting, becomes_row, is_beaten, give_up, rows_of}
use Rattle.search_laws.specs.Standing.{IsKept, IsNext, row_of}
use Rattle.search_laws.proofs.Tests.{true_leb}
use Rattle.search_laws.proofs.Entries.{NoneWaits, NextCases, next_cases, in_rows}
use Rattle.search_laws.proofs.Turns.{given_up_kept, rows_below, settle_still}
use Rattle.search_laws.proofs.Moves.{settle_unbeaten, given_up_settles}
use Rattle.search_laws.specs.Packing.{Place, Store, Best, entry_of, entry_at, is_live, IsChild, IsBest, Packs, IsPopped, IsSamePlaces, IsMarked}
use Rattle.search_laws.specs.Turning.{IsExpanding, next_entry, IsContinued, Continues, HasNext, FindsNext, HasStopped, Stops}
use Rattle.search_laws.proofs.Queues.{same_filter, stale_popped, first_is_next, none_is_next}
use Rattle.search_laws.proofs.Marks.{next_marked}

-- ---- joining

pub continues_still : (s : Store) (b : Best) → Continues s s b
continues_still s b g dag most first plays t packs kept = record { search = t; packs = packs; kept = kept; settles = refl }

pub continues_more : (s u v : Store) (b : Best) → Continues s u b → Continues u v b → Continues s v b
continues_more s u v b one two g dag most first plays t packs kept =
    let mid = one g dag most first plays t packs kept in
    let rest = two g dag most first plays mid.search mid.packs mid.kept in
    record { search = rest.search; packs = rest.packs; kept = rest.kept; settles = mid.settles ∙ rest.settles }

pub then_finds : (s u v : Store) (b : Best) (k : ℕ) → Continues s u b → FindsNext u v b k → FindsNext s v b k
then_finds s u v b k one two g dag most first plays t packs kept =
    let mid = one g dag most first plays t packs kept in
    let rest = two g dag most first plays mid.search mid.packs mid.kept in
    record {
      within = rest.within;
      is_row = rest.is_row;
      search = rest.search;
      packs = rest.packs;
      kept = rest.kept;
      settles = mid.settles ∙ rest.settles;
      next = rest.next;
      is_next = rest.is_next;
    }

pub then_stops : (s u v : Store) (b : Best) → Continues s u b → Stops u v b → Stops s v b
then_stops s u v b one two g dag most first plays t packs kept =
    let mid = one g dag most first plays t packs kept in
    let rest = two g dag most first plays mid.search mid.packs mid.kept in
    record { search = rest.search; packs = rest.packs; kept = rest.kept; settles = mid.settles ∙ rest.settles; none_waits = rest.none_waits }

-- ---- a place that does not wait at its queue's cost

pub continues_stale : (s u : Store) (b : Best) (c k : ℕ) → IsPopped s u c k → IsSamePlaces s u → is_live s c k ≡ false → Continues s u b
continues_stale s u b c k popped same stale g dag most first plays t packs kept =
    record { search = t; packs = stale_popped g first s u b plays t packs c k popped same stale; kept = kept; settles = refl }

-- ---- the next entry

some_next : (es : List Entry) (e : Entry) → next_waiting es ≡ Some e → IsNext es e
some_next es e is = by_case (next_cases es)
  where
    none_some : {X : Type 0} → (x : X) → None ≡ Some x → ⊥
    none_some x h = grind arith

    head_or : Option Entry → Entry
    head_or None = e
    head_or (Some f) = f

    by_case : NextCases es (next_waiting es) → IsNext es e
    by_case (inl none) = absurd (none_some e (sym none.0 ∙ is))
    by_case (inr f) = subst (IsNext es) (ap head_or (sym f.1 ∙ is)) f.2

is_waiting_mark : (m : Mark) → is_waiting m ≡ true → m ≡ waiting
is_waiting_mark waiting h = refl
is_waiting_mark expanded h = absurd (grind arith)
is_waiting_mark given_up h = absurd (grind arith)

module _ (s u : Store) (b : Best) (c k : ℕ) (popped : IsPopped s u c k) (before : (d : ℕ) → d < c → s.queue d ≡ []) (live : is_live s c k ≡ true)
    (g : PebbleGame) (dag : IsDag g.dag) (most : ℕ) (first : List Step) (plays : ℕ → List Step) (t : Search) (packs : Packs g first s b plays t) (kept : IsKept g most t) where
  abbrev e : Entry
  e = entry_at s plays k

  is_next : next_waiting t.entries ≡ Some e
  is_next = first_is_next g first s b plays t packs c k (u.queue c) popped.head before live

  next : IsNext t.entries e
  next = some_next t.entries e is_next

  k_within : k < s.size
  k_within = (packs.below c k (subst (λ ks. IsIn k ks) (sym popped.head) (inl refl))).0

  gives_up : IsMarked s u k given_up → b.cost ≤ (s.at k).cost + (s.at k).floor → IsContinued g most first plays u b t
  gives_up marked beaten =
      let floors = packs.floors k k_within in
      let cost = packs.cost in
      let why : is_beaten g t e ≡ true = true_leb _ _ (omega arith) in
      record {
        search = give_up e t;
        packs = next_marked g first s u b plays t packs c k popped given_up marked refl live;
        kept = given_up_kept g dag most t kept e next why;
        settles = given_up_settles g t e is_next why;
      }

  as_it_waited : IsMarked s u k expanded → e ≡ next_entry u plays k
  as_it_waited marked =
      let waits = (both (is_waiting (s.at k).mark) ((s.at k).cost == c) live).0 in
      ap (λ m. record e { mark = m }) (is_waiting_mark (s.at k).mark waits) ∙ ap (λ p. record (entry_of p (plays k)) { mark = waiting }) (sym marked.here)

  finds : IsMarked s u k expanded → (s.at k).cost + (s.at k).floor < b.cost → HasNext g most first plays u b t k
  finds marked better =
      let floors = packs.floors k k_within in
      let cost = packs.cost in
      let why : is_beaten g t e ≡ false = not_beaten t.cost ((s.at k).cost + floor g (s.at k).position) (omega arith) in
      let same = as_it_waited marked in
      record {
        within = subst (λ n. k < n) (sym marked.size) k_within;
        is_row = ap (λ p. is_expanded p.mark) marked.here;
        search = t;
        packs = subst (λ e. Packs g first u b plays (becomes_row e t)) same (next_marked g first s u b plays t packs c k popped expanded marked refl live);
        kept = kept;
        settles = settle_unbeaten g (length t.entries) t e is_next why;
        next = subst (IsNext t.entries) same next;
        is_next = is_next ∙ ap Some same;
      }
    where
      not_beaten : (x y : ℕ) → y < x → leb x y ≡ false
      not_beaten x y h = grind arith

pub continues_given_up : (s u : Store) (b : Best) (c k : ℕ) → IsPopped s u c k → ((d : ℕ) → d < c → s.queue d ≡ []) → IsMarked s u k given_up → is_live s c k ≡ true
    → b.cost ≤ (s.at k).cost + (s.at k).floor → Continues s u b
continues_given_up s u b c k popped before marked live beaten g dag most first plays t packs kept = gives_up s u b c k popped before live g dag most first plays t packs kept marked beaten

pub finds_next : (s u : Store) (b : Best) (c k : ℕ) → IsPopped s u c k → ((d : ℕ) → d < c → s.queue d ≡ []) → IsMarked s u k expanded → is_live s c k ≡ true
    → (s.at k).cost + (s.at k).floor < b.cost → FindsNext s u b k
finds_next s u b c k popped before marked live better g dag most first plays t packs kept = finds s u b c k popped before live g dag most first plays t packs kept marked better

-- ---- no entry waits

pub same_packs : (g : PebbleGame) (first : List Step) (a b : Store) (best : Best) (plays : ℕ → List Step) (t : Search) → Packs g first a best plays t → IsSamePlaces a b → ((d : ℕ) → b.queue d ≡ a.queue d) → Packs g first b best plays t
same_packs g first a b best plays t packs same queues = record {
  placed = λ j h. subst (λ p. IsIn (entry_of p (plays j)) t.entries) (sym (same.same j)) (packs.placed j (subst (λ n. j < n) same.size h));
  entered = λ e i. let x = packs.entered e i in (x.0, subst (λ n. x.0 < n) (sym same.size) x.1, x.2 ∙ ap (λ p. entry_of p (plays x.0)) (sym (same.same x.0)));
  apart = λ i j hi hj is. packs.apart i j (subst (λ n. i < n) same.size hi) (subst (λ n. j < n) same.size hj)
      (ap (λ p. p.position) (sym (same.same i)) ∙ is ∙ ap (λ p. p.position) (same.same j));
  queued = λ d. packs.queued d
      ∙ same_filter (is_live a d) (is_live b d) (entry_at a plays) (entry_at b plays) (a.queue d)
      (λ j i. (ap (λ p. is_waiting p.mark && (p.cost == d)) (same.same j), ap (λ p. entry_of p (plays j)) (same.same j)))
      ∙ ap (λ ks. map (entry_at b plays) (filter (is_live b d) ks)) (sym (queues d));
  below = λ d j i. let old = packs.below d j (subst (λ ks. IsIn j ks) (queues d) i) in (subst (λ n. j < n) (sym same.size) old.0, subst (λ p. p.cost ≤ d) (sym (same.same j)) old.1);
  floors = λ j h. subst (λ p. p.floor ≡ floor g p.position) (sym (same.same j)) (packs.floors j (subst (λ n. j < n) same.size h));
  unfinished = λ j h. subst (λ p. can_finish g p.position ≡ false) (sym (same.same j)) (packs.unfinished j (subst (λ n. j < n) same.size h));
  begins = packs.begins;
  free = λ some. subst (λ p. p.cost ≡ 0) (sym (same.same 0)) (packs.free (subst (λ n. 0 < n) same.size some));
  child = λ j some h. child_of j (packs.child j some (subst (λ n. j < n) same.size h));
  cost = packs.cost;
  plan = plan_of best.from packs.plan;
}
  where
    child_of : (j : ℕ) → IsChild a plays j → IsChild b plays j
    child_of j is = record {
      parent = subst (λ n. (b.at j).parent < n) (sym same.size) (subst (λ p. p.parent < a.size) (sym (same.same j)) is.parent);
      is_row = subst (λ p. is_expanded (b.at p.parent).mark ≡ true) (sym (same.same j)) (subst (λ p. is_expanded p.mark ≡ true) (sym (same.same (a.at j).parent)) is.is_row);
      play = subst (λ p. plays j ≡ plays p.parent ++ p.step ∷ []) (sym (same.same j)) is.play;
    }

    plan_of : (from : Option ℕ) → IsBest first a plays from best.step t.plan → IsBest first b plays from best.step t.plan
    plan_of None is = is
    plan_of (Some r) is = (subst (λ n. r < n) (sym same.size) is.0, subst (λ p. is_expanded p.mark ≡ true) (sym (same.same r)) is.1, is.2)

pub stops_empty : (s u : Store) (b : Best) → IsSamePlaces s u → ((d : ℕ) → s.queue d ≡ []) → ((d : ℕ) → u.queue d ≡ []) → Stops s u b
stops_empty s u b same empty still g dag most first plays t packs kept =
    let none = none_is_next g first s b plays t packs empty in
    record {
      search = t;
      packs = same_packs g first s u b plays t packs same (λ d. still d ∙ sym (empty d));
      kept = kept;
      settles = settle_still g (length t.entries) t none;
      none_waits = none;
    }

-- ---- the place that was found

pub is_expanding : (s u : Store) (b : Best) (k : ℕ) (g : PebbleGame) → IsDag g.dag → (most : ℕ) (first : List Step) (plays : ℕ → List Step) (t : Search) → HasNext g most first plays u b t k → IsExpanding u k
is_expanding s u b k g dag most first plays t has = record {
  within = has.within;
  is_row = has.is_row;
  rows_below = λ j h row.
      rows_below g dag most has.search has.kept (next_entry u plays k) has.next (row_of (entry_at u plays j)) (in_rows (entry_at u plays j) (becomes_row (next_entry u plays k) has.search).entries (has.packs.placed j h) row);
}
