-- The cones that are taken are cones, so the floor of a window's position is a floor.
use Rattle.std.proofs.Common.{◌≡◌, ℕ, suc, zero, ◌≤◌, ◌<◌, Bool, true, false, not, ◌&&◌, cond, List, [], ◌∷◌, ◌⊎◌, inl, inr, refl, sym, subst, arith}
use Rattle.std.specs.FinSet.{empty, contains, insert, union, intersection, difference}
use Rattle.comp_graph.specs.Lists.{IsIn}
use Rattle.comp_graph.specs.Sets.{membership}
use Rattle.comp_graph.specs.Vertices.{Vertices, ◌∈◌, ◌∉◌, IsWithin, IsOutside}
use Rattle.comp_graph.specs.Dags.{IsDag}
use Rattle.comp_graph.specs.Games.{PebbleGame}
use Rattle.comp_graph.proofs.DagLaws.{both, either, and-true, any_below_some, live_vertex}
use Rattle.comp_graph.proofs.Sets.{set_below_parts, outside_of, size_of_member, in_both, either_two, both_parts, left_parts, in_difference, in_insert, in_insert_same, insert_cases}
use Rattle.pebble_rules.specs.declared.position.Position.{Position}
use Rattle.normal_steps.specs.StepTests.{is_within}
use Rattle.normal_steps.proofs.StepTestLaws.{true_within}
use Rattle.forced_bounds.specs.Floor.{wanted, meets, only}
use Rattle.forced_bounds.proofs.Paths.{IsPathOutside, point, edge, not_true, in_only, only_one}
use Rattle.forced_bounds.proofs.Sets.{needed_path}
use Rattle.forced_bounds.proofs.Below.{common_meets}
use Rattle.window_game.specs.Windows.{Window, known}
use Rattle.window_laws.specs.Entry.{Group, Entry, held_for, known_dag, needed_in, entries}
use Rattle.window_laws.specs.Cones.{touches, IsClosed, IsWanted, AreDisjoint, AreCones, IsCheap, IsWalk}
use Rattle.window_laws.proofs.Entering.{cone_floor_holds, greater_floor_holds}
use Rattle.window_laws.proofs.Walks.{walks_are_closed}
use Rattle.window_floor.specs.Workers.{workers_of}
use Rattle.window_floor.specs.Groups.{groups_of}
use Rattle.window_floor.specs.GreedyCones.{free_below, cheap_below, cheap_at, walked_back, cone_at, wanted_at, joined, taken_cones, counted_loads, window_floor, WindowFloorHolds}
use Rattle.window_floor.proofs.WorkerLaws.{workers_are_tested}
use Rattle.window_floor.proofs.GroupLaws.{groups_are_groups}

-- ---- members of sets

pub left_of : (s t : Vertices) (q : ℕ) → q ∈ s → q ∈ union s t
left_of s t q h = grind (arith, membership)

pub right_of : (s t : Vertices) (q : ℕ) → q ∈ t → q ∈ union s t
right_of s t q h = grind (arith, membership)

clash : (s : Vertices) (u : ℕ) → u ∈ s → u ∉ s → ⊥
clash s u a b = grind arith

below_or_last : (u v : ℕ) → u < suc v → (u ≡ v) ⊎ (u < v)
below_or_last u v h = grind arith

same_or_above : (n v : ℕ) → n ≤ v → (n ≡ v) ⊎ (suc n ≤ v)
same_or_above n v h = grind arith

-- ---- the cheap vertices

free_later : (g : PebbleGame) (w : Window) (v q : ℕ) → q ∈ free_below g w v → q ∈ free_below g w (suc v)
free_later g w v q h = elim (contains (workers_of g w) v) as (λ b. q ∈ cond b (union (free_below g w v) (difference (g.dag.preds v) (w.loads v))) (free_below g w v)) [
  | true ↦ left_of _ _ q h
  | false ↦ h
]

in_free : (g : PebbleGame) (w : Window) (n y x : ℕ) → y < n → y ∈ workers_of g w → x ∈ g.dag.preds y → x ∉ w.loads y → x ∈ free_below g w n
in_free g w zero y x l h pred out = absurd (omega arith)
in_free g w (suc v) y x l h pred out = elim (below_or_last y v l) [
  | inl last ↦ here v last
  | inr less ↦ free_later g w v x (in_free g w v y x less h pred out)
]
  where
    added : (b : Bool) (v : ℕ) → b ≡ true → x ∈ difference (g.dag.preds v) (w.loads v) → x ∈ cond b (union (free_below g w v) (difference (g.dag.preds v) (w.loads v))) (free_below g w v)
    added true v e i = right_of _ _ x i
    added false v e i = absurd (grind arith)

    here : (v : ℕ) → y ≡ v → x ∈ free_below g w (suc v)
    here v last =
        added (contains (workers_of g w) v) v (subst (λ z. z ∈ workers_of g w) last h)
        (subst (λ z. x ∈ difference (g.dag.preds z) (w.loads z)) last (in_difference (g.dag.preds y) (w.loads y) x pred out))

abbrev cheap_test : PebbleGame → Window → Position → ℕ → Bool
cheap_test g w p v = contains (workers_of g w) v && is_within ((known_dag g w).preds v) (cheap_below g w p v)

cheap_next : (g : PebbleGame) (w : Window) (p : Position) (v q : ℕ) → q ∈ cheap_below g w p v → q ∈ cheap_below g w p (suc v)
cheap_next g w p v q h = elim (cheap_test g w p v) as (λ b. q ∈ cond b (insert (cheap_below g w p v) v) (cheap_below g w p v)) [
  | true ↦ in_insert (cheap_below g w p v) v q h
  | false ↦ h
]

cheap_later : (g : PebbleGame) (w : Window) (p : Position) (n m q : ℕ) → n ≤ m → q ∈ cheap_below g w p n → q ∈ cheap_below g w p m
cheap_later g w p n zero q l h = subst (λ z. q ∈ cheap_below g w p z) (let e : n ≡ zero = omega arith in e) h
cheap_later g w p n (suc m) q l h = elim (below_or_last n (suc m) (omega arith)) [
  | inl same ↦ subst (λ z. q ∈ cheap_below g w p z) same h
  | inr less ↦ cheap_next g w p m q (cheap_later g w p n m q (omega arith) h)
]

-- a cheap vertex below v was found cheap before v was looked at
cheap_before : (g : PebbleGame) (w : Window) (p : Position) (v m q : ℕ) → q < v → q ∈ cheap_below g w p m → q ∈ cheap_below g w p v
cheap_before g w p v zero q l h = cheap_later g w p zero v q (omega arith) h
cheap_before g w p v (suc m) q l h = cases (cheap_test g w p m) refl h (cheap_before g w p v m q l)
  where
    cases : (b : Bool) → cheap_test g w p m ≡ b → q ∈ cond b (insert (cheap_below g w p m) m) (cheap_below g w p m)
        → (q ∈ cheap_below g w p m → q ∈ cheap_below g w p v) → q ∈ cheap_below g w p v
    cases false e i old = old i
    cases true e i old = elim (insert_cases (cheap_below g w p m) m q i) [
      | inl last ↦ cheap_later g w p (suc m) v q (omega arith) (subst (λ b. q ∈ cond b (insert (cheap_below g w p m) m) (cheap_below g w p m)) (sym e) i)
      | inr before ↦ old before
    ]

pub cheap_is_cheap : (g : PebbleGame) → IsDag g.dag → (w : Window) (p : Position) → IsCheap g w p (cheap_at g w p)
cheap_is_cheap g dag w p = record {
  red = λ q h. first q (left_of _ _ q h);
  done = λ q h out. first q (right_of _ _ q (left_of _ _ q (in_difference p.blue w.tracked q h out)));
  free = λ x y tracked is pred out.
      let work = (workers_are_tested g dag w y).1 is in
      first x (right_of _ _ x (right_of _ _ x (in_both w.tracked (free_below g w g.dag.count) x tracked
      (in_free g w g.dag.count y x (live_vertex g.dag dag y is.live) work pred out))));
  computed = λ y is held.
      let work = (workers_are_tested g dag w y).1 is in
      let before : IsWithin ((known_dag g w).preds y) (cheap_below g w p y) = λ q i. cheap_before g w p y g.dag.count q (dag.preds_below y q (both_parts (g.dag.preds y) (known w) q i).0) (held q i) in
      cheap_later g w p (suc y) g.dag.count y (let below = live_vertex g.dag dag y is.live in omega arith)
      (added y (cheap_test g w p y) (and-true _ _ work (true_within _ _ before)));
}
  where
    first : (q : ℕ) → q ∈ cheap_below g w p zero → q ∈ cheap_at g w p
    first q h = cheap_later g w p zero g.dag.count q (omega arith) h

    added : (y : ℕ) (b : Bool) → b ≡ true → y ∈ cond b (insert (cheap_below g w p y) y) (cheap_below g w p y)
    added y true e = in_insert_same (cheap_below g w p y) y
    added y false e = absurd (grind arith)

-- ---- the walk back

abbrev pub back_once : PebbleGame → Window → Vertices → ℕ → Vertices → Vertices
back_once g w c v k = cond (contains k v) (union k (difference ((known_dag g w).preds v) c)) k

pub once_cases : (g : PebbleGame) (w : Window) (c : Vertices) (v : ℕ) (k : Vertices) (q : ℕ) → q ∈ back_once g w c v k
    → (q ∈ k) ⊎ ((q ∈ (known_dag g w).preds v) × (q ∉ c))
once_cases g w c v k q h = cases (contains k v) h
  where
    cases : (b : Bool) → q ∈ cond b (union k (difference ((known_dag g w).preds v) c)) k → (q ∈ k) ⊎ ((q ∈ (known_dag g w).preds v) × (q ∉ c))
    cases true i = elim (either_two k (difference ((known_dag g w).preds v) c) q i) [
      | inl old ↦ inl old
      | inr new ↦ inr (left_parts ((known_dag g w).preds v) c q new)
    ]
    cases false i = inl i

once_old : (g : PebbleGame) (w : Window) (c : Vertices) (v : ℕ) (k : Vertices) (q : ℕ) → q ∈ k → q ∈ back_once g w c v k
once_old g w c v k q h = elim (contains k v) as (λ b. q ∈ cond b (union k (difference ((known_dag g w).preds v) c)) k) [
  | true ↦ left_of _ _ q h
  | false ↦ h
]

once_new : (g : PebbleGame) (w : Window) (c : Vertices) (v : ℕ) (k : Vertices) (q : ℕ) → v ∈ k → q ∈ (known_dag g w).preds v → q ∉ c → q ∈ back_once g w c v k
once_new g w c v k q h pred out = new (contains k v) h
  where
    new : (b : Bool) → b ≡ true → q ∈ cond b (union k (difference ((known_dag g w).preds v) c)) k
    new true e = right_of _ _ q (in_difference ((known_dag g w).preds v) c q pred out)
    new false e = absurd (grind arith)

pub walked_old : (g : PebbleGame) (w : Window) (c : Vertices) (n : ℕ) (k : Vertices) (q : ℕ) → q ∈ k → q ∈ walked_back g w c n k
walked_old g w c zero k q h = h
walked_old g w c (suc v) k q h = walked_old g w c v (back_once g w c v k) q (once_old g w c v k q h)

walked_inside : (g : PebbleGame) (w : Window) (c : Vertices) (n : ℕ) (k : Vertices) → IsWithin k (known w) → IsWithin (walked_back g w c n k) (known w)
walked_inside g w c zero k inside = inside
walked_inside g w c (suc v) k inside = walked_inside g w c v (back_once g w c v k) (λ q h. elim (once_cases g w c v k q h) [
  | inl old ↦ inside q old
  | inr new ↦ (both_parts (g.dag.preds v) (known w) q new.0).1
])

walked_outside : (g : PebbleGame) (w : Window) (c : Vertices) (n : ℕ) (k : Vertices) → IsOutside k c → IsOutside (walked_back g w c n k) c
walked_outside g w c zero k outside = outside
walked_outside g w c (suc v) k outside = walked_outside g w c v (back_once g w c v k) (λ q h. elim (once_cases g w c v k q h) [
  | inl old ↦ outside q old
  | inr new ↦ new.1
])

-- the members from n on have their known operands outside c
abbrev pub IsBackFrom : PebbleGame → Window → Vertices → ℕ → Vertices → Type 0
IsBackFrom g w c n k = (y x : ℕ) → n ≤ y → y ∈ k → x ∈ (known_dag g w).preds y → x ∉ c → x ∈ k

pub walked_closed : (g : PebbleGame) → IsDag g.dag → (w : Window) (c : Vertices) (n : ℕ) (k : Vertices) → IsBackFrom g w c n k → IsBackFrom g w c 0 (walked_back g w c n k)
walked_closed g dag w c zero k back = back
walked_closed g dag w c (suc v) k back = walked_closed g dag w c v (back_once g w c v k) (λ y x l h pred out. elim (same_or_above v y l) [
  | inl e ↦ once_new g w c v k x (subst (λ z. z ∈ k) (sym e) (older y (omega (arith, e)) h)) (subst (λ z. x ∈ (known_dag g w).preds z) (sym e) pred) out
  | inr above ↦ once_old g w c v k x (back y x above (older y l h) pred out)
])
  where
    older : (y : ℕ) → v ≤ y → y ∈ back_once g w c v k → y ∈ k
    older y l h = elim (once_cases g w c v k y h) [
      | inl old ↦ old
      | inr new ↦ absurd (let less = dag.preds_below v y (both_parts (g.dag.preds v) (known w) y new.0).0 in omega arith)
    ]

cone_is_walk : (g : PebbleGame) → IsDag g.dag → (w : Window) (p : Position) (v : ℕ) → v ∈ known w → v ∉ cheap_at g w p → IsWalk g w (cheap_at g w p) (cone_at g w p v)
cone_is_walk g dag w p v is out = record {
  inside = walked_inside g w (cheap_at g w p) (suc v) (only v) (λ q h. subst (λ z. z ∈ known w) (sym (only_one q v h)) is);
  outside = walked_outside g w (cheap_at g w p) (suc v) (only v) (λ q h. subst (λ z. z ∉ cheap_at g w p) (sym (only_one q v h)) out);
  back = λ y x h work pred free. walked_closed g dag w (cheap_at g w p) (suc v) (only v)
      (λ y x l h pred free. absurd (let e = only_one y v h in omega (arith, e))) y x (omega arith) h pred free;
}

-- ---- the wanted vertices

known_output : (g : PebbleGame) (w : Window) (v : ℕ) → v ∈ (known_dag g w).outputs → v ∈ known w
known_output g w v h = elim (either_two (intersection g.dag.outputs w.tracked) w.required v h) [
  | inl tracked ↦ left_of _ _ v (both_parts g.dag.outputs w.tracked v tracked).1
  | inr required ↦ right_of _ _ v required
]

known_on_path : (g : PebbleGame) (w : Window) (avoid : Vertices) (v u : ℕ) → u ∈ (known_dag g w).outputs → IsPathOutside (known_dag g w) avoid v u → v ∈ known w
known_on_path g w avoid v u out (point bare) = known_output g w v out
known_on_path g w avoid v u out (edge x bare pred rest) = (both_parts (g.dag.preds x) (known w) v pred).1

needed_known : (g : PebbleGame) (w : Window) (p : Position) (v : ℕ) → v ∈ needed_in g w p → v ∈ known w
needed_known g w p v h =
    let path = needed_path (known_dag g w) p v h in
    known_on_path g w (union p.red p.blue) v path.0 path.1 path.2

touched : (g : PebbleGame) (k : Vertices) (v q : ℕ) → q ∈ held_for g v → q ∈ k → touches g k v ≡ true
touched g k v q h i = (let some = size_of_member (intersection (held_for g v) k) q (in_both (held_for g v) k q h i) in grind arith)

-- a wanted vertex is known, and a set that has it is wanted
record IsWantedAt (g : PebbleGame) (w : Window) (p : Position) (v : ℕ) : Type 0 where
  is_known : v ∈ known w
  wanted_by : (k : Vertices) → v ∈ k → IsWanted g w p k

wanted_is : (g : PebbleGame) (w : Window) (p : Position) (v : ℕ) → v ∈ wanted (known_dag g w) p → IsWantedAt g w p v
wanted_is g w p v h = elim (either (contains (needed_in g w p) v) _ ((set_below_parts g.dag.count _ v h).1)) [
  | inl need ↦ record {
    is_known = needed_known g w p v need;
    wanted_by = λ k i. (v, need, touched g k v v (in_insert_same (g.dag.preds v) v) i);
  }
  | inr reads ↦
      (let parts = both (not (contains p.red v)) _ reads in
      let y = any_below_some g.dag.count (λ y. contains (needed_in g w p) y && contains ((known_dag g w).preds y) v) parts.1 in
      let read = both (contains (needed_in g w p) y.0) (contains ((known_dag g w).preds y.0) v) y.2 in
      let pred = both_parts (g.dag.preds y.0) (known w) v read.1 in
      record {
        is_known = pred.1;
        wanted_by = λ k i. (y.0, read.0, touched g k y.0 v (in_insert (g.dag.preds y.0) y.0 v pred.0) i);
      })
]

-- ---- the cones that are taken

-- the set is the cone of a wanted vertex, and none of its members is in `avoid`
record IsTakenCone (g : PebbleGame) (w : Window) (p : Position) (avoid k : Vertices) : Type 0 where
  vertex : ℕ
  wants : vertex ∈ wanted_at g w p
  is : k ≡ cone_at g w p vertex
  outside : IsOutside k avoid

not_meeting : (k s : Vertices) → not (meets k s) ≡ true → IsOutside k s
not_meeting k s h q i = outside_of k s q (λ a b. differ _ (common_meets k s q b a) (not_true _ h)) i
  where
    differ : (b : Bool) → b ≡ true → b ≡ false → ⊥
    differ b t f = grind arith

outside_parts : (k a b : Vertices) → IsOutside k (union a b) → IsOutside k a × IsOutside k b
outside_parts k a b h = (
  λ q i. outside_of k a q (λ x y. clash (union a b) q (left_of a b q x) (h q i)) i,
  λ q i. outside_of k b q (λ x y. clash (union a b) q (right_of a b q x) (h q i)) i,
)

abbrev pub take_test : PebbleGame → Window → Position → Vertices → ℕ → Bool
take_test g w p avoid v =
    contains (wanted_at g w p) v && not (meets (cone_at g w p v) (union avoid (joined (taken_cones g w p avoid v))))

taken_is : (g : PebbleGame) (w : Window) (p : Position) (avoid : Vertices) (n : ℕ) (k : Vertices) → IsIn k (taken_cones g w p avoid n) → IsTakenCone g w p avoid k
taken_is g w p avoid zero k h = absurd h
taken_is g w p avoid (suc v) k h = cases (take_test g w p avoid v) refl h (taken_is g w p avoid v k)
  where
    cases : (b : Bool) → take_test g w p avoid v ≡ b → IsIn k (cond b (cone_at g w p v ∷ taken_cones g w p avoid v) (taken_cones g w p avoid v))
        → (IsIn k (taken_cones g w p avoid v) → IsTakenCone g w p avoid k) → IsTakenCone g w p avoid k
    cases true e (inl here) old =
        let parts = both (contains (wanted_at g w p) v) _ e in
        let out = (outside_parts (cone_at g w p v) avoid (joined (taken_cones g w p avoid v)) (not_meeting _ _ parts.1)).0 in
        record { vertex = v; wants = parts.0; is = here; outside = subst (λ z. IsOutside z avoid) (sym here) out }
    cases true e (inr before) old = old before
    cases false e i old = old i

in_joined : (ks : List Vertices) (l : Vertices) (q : ℕ) → IsIn l ks → q ∈ l → q ∈ joined ks
in_joined [] l q h i = absurd h
in_joined (k ∷ ks) l q (inl e) i = left_of k (joined ks) q (subst (λ z. q ∈ z) e i)
in_joined (k ∷ ks) l q (inr h) i = right_of k (joined ks) q (in_joined ks l q h i)

taken_disjoint : (g : PebbleGame) (w : Window) (p : Position) (avoid : Vertices) (n : ℕ) → AreDisjoint (taken_cones g w p avoid n)
taken_disjoint g w p avoid zero = tt
taken_disjoint g w p avoid (suc v) = cases (take_test g w p avoid v) refl (taken_disjoint g w p avoid v)
  where
    cases : (b : Bool) → take_test g w p avoid v ≡ b → AreDisjoint (taken_cones g w p avoid v)
        → AreDisjoint (cond b (cone_at g w p v ∷ taken_cones g w p avoid v) (taken_cones g w p avoid v))
    cases true e before = (
      λ l i q h.
          let parts = both (contains (wanted_at g w p) v) _ e in
          let out = (outside_parts (cone_at g w p v) avoid (joined (taken_cones g w p avoid v)) (not_meeting _ _ parts.1)).1 in
          outside_of (cone_at g w p v) l q (λ a b. clash (joined (taken_cones g w p avoid v)) q (in_joined (taken_cones g w p avoid v) l q i a) (out q h)) h,
      before,
    )
    cases false e before = before

in_counted : (es : List Entry) (e : Entry) (q : ℕ) → IsIn e es → q ∈ e.group.loads → q ∈ counted_loads es
in_counted [] e q h i = absurd h
in_counted (x ∷ es) e q (inl is) i = left_of x.group.loads (counted_loads es) q (subst (λ (z : Entry). q ∈ z.group.loads) is i)
in_counted (x ∷ es) e q (inr h) i = right_of x.group.loads (counted_loads es) q (in_counted es e q h i)

pub taken_are_cones : (g : PebbleGame) → IsDag g.dag → (w : Window) (groups : List Group) (p : Position) (avoid : Vertices) → ((e : Entry) → IsIn e (entries g w p empty groups) → IsWithin e.group.loads avoid)
    → (n : ℕ) → AreCones g w groups p (taken_cones g w p avoid n)
taken_are_cones g dag w groups p avoid counted n = record {
  closed = λ k i.
      let t = taken_is g w p avoid n k i in
      let parts = left_parts (wanted (known_dag g w) p) (cheap_at g w p) t.vertex t.wants in
      let walk = cone_is_walk g dag w p t.vertex (wanted_is g w p t.vertex parts.0).is_known parts.1 in
      subst (λ z. IsClosed g w p z) (sym t.is) (walks_are_closed g w p (cheap_at g w p) (cone_at g w p t.vertex) (cheap_is_cheap g dag w p) walk);
  wanted = λ k i.
      let t = taken_is g w p avoid n k i in
      let parts = left_parts (wanted (known_dag g w) p) (cheap_at g w p) t.vertex t.wants in
      (wanted_is g w p t.vertex parts.0).wanted_by k
      (subst (λ z. t.vertex ∈ z) (sym t.is) (walked_old g w (cheap_at g w p) (suc t.vertex) (only t.vertex) t.vertex (in_only t.vertex)));
  disjoint = taken_disjoint g w p avoid n;
  apart = λ k i e j q h.
      let t = taken_is g w p avoid n k i in
      outside_of k e.group.loads q (λ a b. clash avoid q (counted e j q a) (t.outside q h)) h;
}

pub window_floor_holds : WindowFloorHolds
unfolding window_floor
window_floor_holds g dag w is p =
    greater_floor_holds g w p _ _
    (cone_floor_holds g w is [] tt p (taken_cones g w p empty g.dag.count) (taken_are_cones g dag w [] p empty (λ e j. absurd j) g.dag.count))
    (cone_floor_holds g w is (groups_of g w) (groups_are_groups g dag w) p _
    (taken_are_cones g dag w (groups_of g w) p (counted_loads (entries g w p empty (groups_of g w))) (λ e j q h. in_counted (entries g w p empty (groups_of g w)) e q j h) g.dag.count))
