-- How queues stand for buckets, and the next entry.
use Rattle.std.proofs.Common.{◌≡◌, ℕ, zero, suc, ◌+◌, ◌≤◌, ◌<◌, ◌==◌, ltb, leb, Bool, true, false, not, ◌&&◌, ◌||◌, List, [], ◌∷◌, ◌++◌, map, length, cond, ◌⊎◌, inl, inr, refl, sym, ap, ◌∙◌, subst, arith}
use Rattle.std.specs.Prelude.{filter, Option, Some, None}
use Rattle.std.specs.List.{list_any}
use Rattle.comp_graph.specs.Games.{PebbleGame}
use Rattle.comp_graph.specs.Dags.{IsDag}
use Rattle.pebble_rules.specs.declared.position.Position.{Position}
use Rattle.pebble_rules.specs.Rules.{start}
use Rattle.normal_steps.specs.Steps.{stepped, step_cost, finish_cost}
use Rattle.normal_steps.specs.declared.step.Step.{Step}
use Rattle.pebble_rules.proofs.Possible.{true_or_false}
use Rattle.comp_graph.proofs.DagLaws.{both, and-true}
use Rattle.comp_graph.specs.Lists.{IsIn}
use Rattle.forced_bounds.specs.Floor.{floor}
use Rattle.search_laws.specs.Steps.{same_position}
use Rattle.normal_steps.specs.StepTests.{can_finish}
use Rattle.search_laws.specs.Search.{Mark, waiting, expanded, given_up, is_waiting, is_expanded, Entry, Search, next_waiting, marked_at, has_within, without, tried, becomes_row, is_beaten, give_up}
use Rattle.search_laws.specs.Buckets.{bucket}
use Rattle.search_laws.specs.Standing.{IsNext}
use Rattle.search_laws.proofs.Lists.{in_left, in_right, append_cases, in_map, map_in, filter_in, in_filter, any_in, in_any}
use Rattle.search_laws.proofs.Tests.{same_position_true, true_same_position, leb_true, true_leb}
use Rattle.search_laws.proofs.Entries.{MarkCases, marked_in, in_marked, NoneWaits, NextCases, next_cases}
use Rattle.search_laws.proofs.Buckets.{next_is_first_of_bucket, each_bucket_follows}
use Rattle.search_laws.specs.Packing.{Place, Store, Best, entry_of, entry_at, is_live, IsChild, IsBest, Packs, IsPopped, IsSamePlaces, IsMarked, IsPut}

-- ---- lists

-- filtered twice and mapped, the same as filtered once anew and mapped anew
pub refilter : {X : Type 0} → (stays live new : ℕ → Bool) (f h : ℕ → X) (ks : List ℕ)
    → ((j : ℕ) → IsIn j ks → ((new j ≡ false) × (stays j ≡ false)) ⊎ ((new j ≡ live j) × (stays j ≡ true) × (h j ≡ f j)))
    → map f (filter stays (filter live ks)) ≡ map h (filter new ks)
refilter stays live new f h [] each = refl
refilter stays live new f h (k ∷ ks) each = here (live k) refl (each k (inl refl)) (refilter stays live new f h ks (λ j i. each j (inr i)))
  where
    here : (b : Bool) → live k ≡ b → ((new k ≡ false) × (stays k ≡ false)) ⊎ ((new k ≡ live k) × (stays k ≡ true) × (h k ≡ f k))
        → map f (filter stays (filter live ks)) ≡ map h (filter new ks)
        → map f (filter stays (cond b (k ∷ filter live ks) (filter live ks))) ≡ map h (cond (new k) (k ∷ filter new ks) (filter new ks))
    here true is (inl gone) rest =
        ap (λ b. map f (cond b (k ∷ filter stays (filter live ks)) (filter stays (filter live ks)))) gone.1 ∙ rest
        ∙ ap (λ b. map h (cond b (k ∷ filter new ks) (filter new ks))) (sym gone.0)
    here true is (inr same) rest =
        ap (λ b. map f (cond b (k ∷ filter stays (filter live ks)) (filter stays (filter live ks)))) same.1
        ∙ ap (λ x. x ∷ map f (filter stays (filter live ks))) (sym same.2) ∙ ap (λ xs. h k ∷ xs) rest
        ∙ ap (λ b. map h (cond b (k ∷ filter new ks) (filter new ks))) (sym (same.0 ∙ is))
    here false is (inl gone) rest = rest ∙ ap (λ b. map h (cond b (k ∷ filter new ks) (filter new ks))) (sym gone.0)
    here false is (inr same) rest = rest ∙ ap (λ b. map h (cond b (k ∷ filter new ks) (filter new ks))) (sym (same.0 ∙ is))

pub filter_map : {X Y : Type 0} → (test : Y → Bool) (f : X → Y) (xs : List X) → filter test (map f xs) ≡ map f (filter (λ x. test (f x)) xs)
filter_map test f [] = refl
filter_map test f (x ∷ xs) = here (test (f x)) (filter_map test f xs)
  where
    here : (b : Bool) → filter test (map f xs) ≡ map f (filter (λ x. test (f x)) xs)
        → cond b (f x ∷ filter test (map f xs)) (filter test (map f xs)) ≡ map f (cond b (x ∷ filter (λ x. test (f x)) xs) (filter (λ x. test (f x)) xs))
    here true rest = ap (λ xs. f x ∷ xs) rest
    here false rest = rest

pub filter_append : {X : Type 0} → (test : X → Bool) (xs ys : List X) → filter test (xs ++ ys) ≡ filter test xs ++ filter test ys
filter_append test [] ys = refl
filter_append test (x ∷ xs) ys = here (test x) (filter_append test xs ys)
  where
    here : (b : Bool) → filter test (xs ++ ys) ≡ filter test xs ++ filter test ys → cond b (x ∷ filter test (xs ++ ys)) (filter test (xs ++ ys)) ≡ cond b (x ∷ filter test xs) (filter test xs) ++ filter test ys
    here true rest = ap (λ xs. x ∷ xs) rest
    here false rest = rest

pub map_append : {X Y : Type 0} → (f : X → Y) (xs ys : List X) → map f (xs ++ ys) ≡ map f xs ++ map f ys
map_append f [] ys = refl
map_append f (x ∷ xs) ys = ap (λ xs. f x ∷ xs) (map_append f xs ys)

-- the same test and the same function on all members
pub same_filter : {X : Type 0} → (live new : ℕ → Bool) (f h : ℕ → X) (ks : List ℕ) → ((j : ℕ) → IsIn j ks → (new j ≡ live j) × (h j ≡ f j)) → map f (filter live ks) ≡ map h (filter new ks)
same_filter live new f h [] each = refl
same_filter live new f h (k ∷ ks) each = here (live k) refl (each k (inl refl)) (same_filter live new f h ks (λ j i. each j (inr i)))
  where
    here : (b : Bool) → live k ≡ b → (new k ≡ live k) × (h k ≡ f k) → map f (filter live ks) ≡ map h (filter new ks)
        → map f (cond b (k ∷ filter live ks) (filter live ks)) ≡ map h (cond (new k) (k ∷ filter new ks) (filter new ks))
    here true is same rest =
        ap (λ x. x ∷ map f (filter live ks)) (sym same.1) ∙ ap (λ xs. h k ∷ xs) rest ∙ ap (λ b. map h (cond b (k ∷ filter new ks) (filter new ks))) (sym (same.0 ∙ is))
    here false is same rest = rest ∙ ap (λ b. map h (cond b (k ∷ filter new ks) (filter new ks))) (sym (same.0 ∙ is))

pub decide : (a b : ℕ) → (a ≡ b) ⊎ (a ≡ b → ⊥)
decide a b = elim (true_or_false (a == b)) [ inl is ↦ inl (grind arith) | inr differ ↦ inr (λ same. grind arith) ]

pub append_none : {X : Type 0} → (xs : List X) → xs ++ [] ≡ xs
append_none [] = refl
append_none (x ∷ xs) = ap (λ xs. x ∷ xs) (append_none xs)

-- ---- a queue is popped

module _ (g : PebbleGame) (first : List Step) (a b : Store) (best : Best) (plays : ℕ → List Step) (t : Search) (packs : Packs g first a best plays t) (c k : ℕ) (popped : IsPopped a b c k) where
  pub in_popped : (d j : ℕ) → IsIn j (b.queue d) → IsIn j (a.queue d)
  in_popped d j i = elim (decide d c) [
    | inl same ↦ subst (λ ks. IsIn j ks) (sym (ap a.queue same ∙ popped.head)) (inr (subst (λ d. IsIn j (b.queue d)) same i))
    | inr other ↦ subst (λ ks. IsIn j ks) (popped.others d other) i
  ]

  -- the place that leaves is not live afterwards
  pub left_over : (live : ℕ → ℕ → Bool) → live c k ≡ false → (d : ℕ) → filter (live d) (a.queue d) ≡ filter (live d) (b.queue d)
  left_over live gone d = elim (decide d c) [
    | inl same ↦
        subst (λ d. filter (live d) (a.queue d) ≡ filter (live d) (b.queue d)) (sym same)
        (ap (filter (live c)) popped.head ∙ ap (λ x. cond x (k ∷ filter (live c) (b.queue c)) (filter (live c) (b.queue c))) gone)
    | inr other ↦ ap (filter (live d)) (sym (popped.others d other))
  ]

  module _ (same : IsSamePlaces a b) (stale : is_live a c k ≡ false) where
    pub stale_popped : Packs g first b best plays t
    stale_popped = record {
      placed = λ j h. subst (λ p. IsIn (entry_of p (plays j)) t.entries) (sym (same.same j)) (packs.placed j (subst (λ n. j < n) same.size h));
      entered = λ e i. let x = packs.entered e i in (x.0, subst (λ n. x.0 < n) (sym same.size) x.1, x.2 ∙ ap (λ p. entry_of p (plays x.0)) (sym (same.same x.0)));
      apart = λ i j hi hj is. packs.apart i j (subst (λ n. i < n) same.size hi) (subst (λ n. j < n) same.size hj)
          (ap (λ p. p.position) (sym (same.same i)) ∙ is ∙ ap (λ p. p.position) (same.same j));
      queued = λ d. packs.queued d ∙ ap (map (entry_at a plays)) (left_over (is_live a) stale d)
          ∙ same_filter (is_live a d) (is_live b d) (entry_at a plays) (entry_at b plays) (b.queue d)
          (λ j i. (ap (λ p. is_waiting p.mark && (p.cost == d)) (same.same j), ap (λ p. entry_of p (plays j)) (same.same j)));
      below = λ d j i. let old = packs.below d j (in_popped d j i) in (subst (λ n. j < n) (sym same.size) old.0, subst (λ p. p.cost ≤ d) (sym (same.same j)) old.1);
      floors = λ j h. subst (λ p. p.floor ≡ floor g p.position) (sym (same.same j)) (packs.floors j (subst (λ n. j < n) same.size h));
      unfinished = λ j h. subst (λ p. can_finish g p.position ≡ false) (sym (same.same j)) (packs.unfinished j (subst (λ n. j < n) same.size h));
      begins = packs.begins;
      free = λ some. subst (λ p. p.cost ≡ 0) (sym (same.same 0)) (packs.free (subst (λ n. 0 < n) same.size some));
      child = λ j some h. child_of j (packs.child j some (subst (λ n. j < n) same.size h));
      cost = packs.cost;
      plan = plan_of best.from packs.plan;
    }
      where
        child_of : (j : ℕ) → IsChild a plays j → IsChild b plays j
        child_of j is = record {
          parent = subst (λ n. (b.at j).parent < n) (sym same.size) (subst (λ p. p.parent < a.size) (sym (same.same j)) is.parent);
          is_row = subst (λ p. is_expanded (b.at p.parent).mark ≡ true) (sym (same.same j)) (subst (λ p. is_expanded p.mark ≡ true) (sym (same.same (a.at j).parent)) is.is_row);
          play = subst (λ p. plays j ≡ plays p.parent ++ p.step ∷ []) (sym (same.same j)) is.play;
        }

        plan_of : (from : Option ℕ) → IsBest first a plays from best.step t.plan → IsBest first b plays from best.step t.plan
        plan_of None is = is
        plan_of (Some r) is = (subst (λ n. r < n) (sym same.size) is.0, subst (λ p. is_expanded p.mark ≡ true) (sym (same.same r)) is.1, is.2)

-- ---- the next entry

module _ (g : PebbleGame) (first : List Step) (a : Store) (best : Best) (plays : ℕ → List Step) (t : Search) (packs : Packs g first a best plays t) where
  in_queue : (f : Entry) → IsIn f t.entries → is_waiting f.mark ≡ true → a.queue f.cost ≡ [] → ⊥
  in_queue f i waits none =
      subst (λ xs. IsIn f xs) (packs.queued f.cost ∙ ap (λ ks. map (entry_at a plays) (filter (is_live a f.cost) ks)) none)
      (in_filter (λ e. is_waiting e.mark && (e.cost == f.cost)) f t.entries i (and-true (is_waiting f.mark) (f.cost == f.cost) waits (grind arith)))

  pub first_is_next : (c k : ℕ) (rest : List ℕ) → a.queue c ≡ k ∷ rest → ((d : ℕ) → d < c → a.queue d ≡ []) → is_live a c k ≡ true → next_waiting t.entries ≡ Some (entry_at a plays k)
  first_is_next c k rest head before live =
      next_is_first_of_bucket c (entry_at a plays k) (map (entry_at a plays) (filter (is_live a c) rest)) t.entries least
      (packs.queued c ∙ ap (λ ks. map (entry_at a plays) (filter (is_live a c) ks)) head
      ∙ ap (λ b. map (entry_at a plays) (cond b (k ∷ filter (is_live a c) rest) (filter (is_live a c) rest))) live)
    where
      least : (f : Entry) → IsIn f t.entries → is_waiting f.mark ≡ true → c ≤ f.cost
      least f i waits = elim (true_or_false (ltb f.cost c)) [
        | inl less ↦ absurd (in_queue f i waits (before f.cost (grind arith)))
        | inr differ ↦ grind arith
      ]

  pub none_is_next : ((d : ℕ) → a.queue d ≡ []) → next_waiting t.entries ≡ None
  none_is_next empty = elim (next_cases t.entries) [
    | inl none ↦ none.0
    | inr e ↦ absurd (in_queue e.0 e.2.member e.2.waits (empty e.0.cost))
  ]

-- ---- what changes with a mark or a position

abbrev pub marked_search : Mark → Position → Search → Search
marked_search m p t = record { plan = t.plan; cost = t.cost; entries = marked_at m p t.entries }

abbrev pub remarked : Mark → Entry → Entry
remarked m e = record e { mark = m }

abbrev pub is_elsewhere : Store → Position → ℕ → Bool
is_elsewhere s q j = not (same_position (s.at j).position q)

abbrev pub elsewhere : Position → Entry → Bool
elsewhere q e = not (same_position e.position q)

pub not_same : (p q : Position) → (p ≡ q → ⊥) → not (same_position p q) ≡ true
not_same p q other = elim (true_or_false (same_position p q)) [ inl is ↦ absurd (other (same_position_true p q is)) | inr differ ↦ ap not differ ]

pub is_same : (p q : Position) → p ≡ q → not (same_position p q) ≡ false
is_same p q same = ap not (true_same_position p q same)

-- what is not at q stays elsewhere when q leaves
pub bucket_elsewhere : (s : Store) (plays : ℕ → List Step) (q : Position) (live : ℕ → Bool) (ks : List ℕ)
    → without (map (entry_at s plays) (filter live ks)) q ≡ map (entry_at s plays) (filter (is_elsewhere s q) (filter live ks))
bucket_elsewhere s plays q live ks = filter_map (elsewhere q) (entry_at s plays) (filter live ks)

pub not_waiting : (m : Mark) (c d : ℕ) → is_waiting m ≡ false → (is_waiting m && (c == d)) ≡ false
not_waiting m c d h = grind arith

pub waiting_is_no_row : (m : Mark) → is_waiting m ≡ true → is_expanded m ≡ true → ⊥
waiting_is_no_row waiting w e = absurd (grind arith)
waiting_is_no_row expanded w e = absurd (grind arith)
waiting_is_no_row given_up w e = absurd (grind arith)
