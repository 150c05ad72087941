-- What the loops find of needed vertices and cones.
use Rattle.std.proofs.Common.{◌≡◌, ℕ, suc, zero, ◌+◌, ◌<◌, Bool, true, false, not, ◌&&◌, ◌==◌, cond, length, List, ◌∷◌, ◌⊎◌, inl, inr, refl, sym, ap, ◌∙◌, subst, arith}
use Rattle.std.specs.FinSet.{empty, contains, insert, union, intersection, difference}
use Rattle.std.proofs.lemmas.Bool.{cases_Bool}
use Rattle.comp_graph.specs.Sets.{membership, same}
use Rattle.comp_graph.specs.Vertices.{Vertices, ◌∈◌, ◌∉◌, IsWithin, size}
use Rattle.comp_graph.specs.Dags.{Dag, IsDag}
use Rattle.comp_graph.specs.Games.{PebbleGame}
use Rattle.comp_graph.proofs.DagLaws.{live_vertex}
use Rattle.comp_graph.proofs.Sets.{some_member, either_two, both_parts, left_parts, insert_cases, in_insert}
use Rattle.pebble_rules.specs.declared.position.Position.{Position}
use Rattle.forced_bounds.specs.Floor.{needed, meets, only}
use Rattle.forced_bounds.specs.Least.{HoldsNeeded}
use Rattle.forced_bounds.proofs.Paths.{same_test, in_only, only_one}
use Rattle.forced_bounds.proofs.Sets.{needed_is_least}
use Rattle.forced_bounds.proofs.Below.{common_meets}
use Rattle.forced_bounds.proofs.DemandLaws.{IsSwept}
use Rattle.window_game.specs.Windows.{Window, IsWindow, known}
use Rattle.window_laws.specs.Entry.{known_dag}
use Rattle.window_floor.specs.GreedyCones.{cheap_at, walked_back, cone_at, wanted_at, joined, taken_cones}
use Rattle.window_floor.proofs.ConeLaws.{left_of, right_of, walked_old, walked_closed, IsBackFrom, back_once, take_test}

-- ---- what is needed

abbrev none_of : Vertices
none_of = empty

pub known_is_dag : (g : PebbleGame) → IsDag g.dag → (w : Window) → IsWindow g w → IsDag (known_dag g w)
known_is_dag g dag w is = record {
  preds_below = λ v u h. dag.preds_below v u (both_parts (g.dag.preds v) (known w) u h).0;
  inputs_are_vertices = dag.inputs_are_vertices;
  outputs_are_vertices = λ v h. elim (either_two (intersection g.dag.outputs w.tracked) w.required v h) [
    | inl out ↦ dag.outputs_are_vertices v (both_parts g.dag.outputs w.tracked v out).0
    | inr required ↦ live_vertex g.dag dag v (is.required_live v required)
  ];
  inputs_have_no_preds = λ v h. ap (λ s. intersection s (known w)) (dag.inputs_have_no_preds v h) ∙ same (intersection none_of (known w)) none_of none;
}
  where
    none : (q : ℕ) → contains (intersection none_of (known w)) q ≡ contains none_of q
    none q = grind (arith, membership)

pub swept_needed : (d : Dag) → IsDag d → (p : Position) (found read : Vertices) → IsSwept d p 0 found read → found ≡ needed d p
swept_needed d dag p found read swept = same found (needed d p) (λ v. same_test _ _ (swept.least (needed d p) (needed_is_least d dag p).closed v) ((needed_is_least d dag p).least found holds v))
  where
    holds : HoldsNeeded d p found
    holds = record { outputs = swept.starts; preds = λ v u h pred bare. swept.closed v u (omega arith) h pred bare }

-- ---- cones within cones

walked_least : (g : PebbleGame) (w : Window) (c : Vertices) (n : ℕ) (k t : Vertices) → IsWithin k t → IsBackFrom g w c 0 t → IsWithin (walked_back g w c n k) t
walked_least g w c zero k t within back = within
walked_least g w c (suc v) k t within back = walked_least g w c v (back_once g w c v k) t (λ q h. elim (once_cases_with q h) [
  | inl old ↦ within q old
  | inr new ↦ back v q (omega arith) (within v new.0) new.1 new.2
]) back
  where
    cases : (b : Bool) → contains k v ≡ b → (q : ℕ) → q ∈ cond b (union k (difference ((known_dag g w).preds v) c)) k
        → (q ∈ k) ⊎ ((v ∈ k) × (q ∈ (known_dag g w).preds v) × (q ∉ c))
    cases true e q i = elim (either_two k (difference ((known_dag g w).preds v) c) q i) [
      | inl old ↦ inl old
      | inr new ↦ (let parts = left_parts ((known_dag g w).preds v) c q new in inr (e, parts.0, parts.1))
    ]
    cases false e q i = inl i

    once_cases_with : (q : ℕ) → q ∈ back_once g w c v k → (q ∈ k) ⊎ ((v ∈ k) × (q ∈ (known_dag g w).preds v) × (q ∉ c))
    once_cases_with q i = cases (contains k v) refl q i

-- the walk back from v outside c
abbrev pub walk_from : PebbleGame → Window → Vertices → ℕ → Vertices
walk_from g w c v = walked_back g w c (suc v) (only v)

pub walk_closed : (g : PebbleGame) → IsDag g.dag → (w : Window) (c : Vertices) (v : ℕ) → IsBackFrom g w c 0 (walk_from g w c v)
walk_closed g dag w c v = walked_closed g dag w c (suc v) (only v) (λ y x l h pred free. absurd (let e = only_one y v h in omega (arith, e)))

pub walk_itself : (g : PebbleGame) (w : Window) (c : Vertices) (v : ℕ) → v ∈ walk_from g w c v
walk_itself g w c v = walked_old g w c (suc v) (only v) v (in_only v)

pub walk_within : (g : PebbleGame) → IsDag g.dag → (w : Window) (c : Vertices) (v u : ℕ) → u ∈ walk_from g w c v → IsWithin (walk_from g w c u) (walk_from g w c v)
walk_within g dag w c v u h =
    walked_least g w c (suc u) (only u) (walk_from g w c v) (λ q i. subst (λ z. z ∈ walk_from g w c v) (sym (only_one q u i)) h) (walk_closed g dag w c v)

-- ---- what two sets have in common

pub common : (s t : Vertices) → meets s t ≡ true → (q : ℕ) × (q ∈ s) × (q ∈ t)
common s t h =
    let some : 0 < size (intersection s t) = positive (size (intersection s t)) h in
    let m = some_member (intersection s t) some in
    let parts = both_parts s t m.0 m.1 in
    (m.0, parts.0, parts.1)
  where
    positive : (n : ℕ) → not (n == 0) ≡ true → 0 < n
    positive n h = grind arith

pub meets_wider : (s t a b : Vertices) → IsWithin s a → IsWithin t b → meets s t ≡ true → meets a b ≡ true
meets_wider s t a b first second h = let m = common s t h in common_meets a b m.0 (first m.0 m.1) (second m.0 m.2)

pub first_in_walk : (g : PebbleGame) → IsDag g.dag → (w : Window) (c first met : Vertices) (v : ℕ) → first ≡ insert (difference ((known_dag g w).preds v) c) v
    → meets first met ≡ true → meets (walk_from g w c v) met ≡ true
first_in_walk g dag w c first met v e h = meets_wider first met (walk_from g w c v) met (λ q i. in_walk q (subst (λ s. q ∈ s) e i)) (λ q i. i) h
  where
    in_walk : (q : ℕ) → q ∈ insert (difference ((known_dag g w).preds v) c) v → q ∈ walk_from g w c v
    in_walk q i = elim (insert_cases (difference ((known_dag g w).preds v) c) v q i) [
      | inl itself ↦ subst (λ z. z ∈ walk_from g w c v) (sym itself) (walk_itself g w c v)
      | inr ahead ↦ (let parts = left_parts ((known_dag g w).preds v) c q ahead in walk_closed g dag w c v v q (omega arith) (walk_itself g w c v) parts.0 parts.1)
    ]

-- ---- the loop over the wanted vertices

-- the vertices that no further cone may have
abbrev pub closed_off : PebbleGame → Window → Position → Vertices → ℕ → Vertices
closed_off g w p avoid n = union avoid (joined (taken_cones g w p avoid n))

-- all these are met, and the cone of each vertex that is met has one of them
pub record IsMet (g : PebbleGame) (w : Window) (p : Position) (avoid : Vertices) (n : ℕ) (met : Vertices) : Type 0 where
  pub has : IsWithin (closed_off g w p avoid n) met
  pub meet : (q : ℕ) → q ∈ met → meets (cone_at g w p q) (closed_off g w p avoid n) ≡ true

pub met_start : (g : PebbleGame) (w : Window) (p : Position) (avoid met : Vertices) → met ≡ avoid → IsMet g w p avoid 0 met
met_start g w p avoid met e = record {
  has = λ q h. elim (either_two avoid empty q h) [ inl i ↦ subst (λ s. q ∈ s) (sym e) i | inr none ↦ absurd (not_empty q none) ];
  meet = λ q h. common_meets (cone_at g w p q) (union avoid empty) q (walk_itself g w (cheap_at g w p) q) (left_of avoid empty q (subst (λ s. q ∈ s) e h));
}
  where
    not_empty : (q : ℕ) → q ∈ none_of → ⊥
    not_empty q h = grind (arith, membership)

-- what a vertex changes, by the test of whether its cone is taken
abbrev pub cones_next : PebbleGame → Window → Position → Vertices → ℕ → Bool → List Vertices
cones_next g w p avoid v b = cond b (cone_at g w p v ∷ taken_cones g w p avoid v) (taken_cones g w p avoid v)

pub record IsNext (g : PebbleGame) (w : Window) (p : Position) (avoid : Vertices) (v : ℕ) (met : Vertices) (count : ℕ) : Type 0 where
  pub still : IsMet g w p avoid (v + 1) met
  pub counted : count ≡ length (taken_cones g w p avoid (v + 1))

next_at : (g : PebbleGame) (w : Window) (p : Position) (avoid : Vertices) (v : ℕ) (b : Bool) (met : Vertices) (count : ℕ) → take_test g w p avoid v ≡ b
    → IsWithin (union avoid (joined (cones_next g w p avoid v b))) met
    → ((q : ℕ) → q ∈ met → meets (cone_at g w p q) (union avoid (joined (cones_next g w p avoid v b))) ≡ true)
    → count ≡ length (cones_next g w p avoid v b) → IsNext g w p avoid v met count
next_at g w p avoid v b met count e has meet counted =
    let here : v + 1 ≡ suc v = omega arith in
    let list : cones_next g w p avoid v b ≡ taken_cones g w p avoid (v + 1) = ap (cones_next g w p avoid v) (sym e) ∙ ap (taken_cones g w p avoid) (sym here) in
    record {
      still = subst (λ ks. IsWithin (union avoid (joined ks)) met → ((q : ℕ) → q ∈ met → meets (cone_at g w p q) (union avoid (joined ks)) ≡ true) → IsMet g w p avoid (v + 1) met) (sym list)
          (λ a b. record { has = a; meet = b }) has meet;
      counted = counted ∙ ap length list;
    }

not_wanted : (a b : Bool) → a ≡ false → (a && b) ≡ false
not_wanted a b h = grind arith

pub next_unwanted : (g : PebbleGame) (w : Window) (p : Position) (avoid : Vertices) (v : ℕ) (met : Vertices) (count : ℕ) → IsMet g w p avoid v met
    → count ≡ length (taken_cones g w p avoid v) → v ∉ wanted_at g w p → IsNext g w p avoid v met count
next_unwanted g w p avoid v met count before counted out = next_at g w p avoid v false met count (not_wanted (contains (wanted_at g w p) v) _ out) before.has before.meet counted

blocked : (a b : Bool) → b ≡ true → (a && not b) ≡ false
blocked a b h = grind arith

-- the cone has a vertex that is met
pub next_met : (g : PebbleGame) → IsDag g.dag → (w : Window) (p : Position) (avoid : Vertices) (v : ℕ) (met more : Vertices) (count : ℕ) → IsMet g w p avoid v met
    → count ≡ length (taken_cones g w p avoid v) → meets (cone_at g w p v) met ≡ true → more ≡ insert met v → IsNext g w p avoid v more count
next_met g dag w p avoid v met more count before counted h e =
    next_at g w p avoid v false more count (blocked (contains (wanted_at g w p) v) _ here)
    (λ q i. subst (λ s. q ∈ s) (sym e) (in_insert met v q (before.has q i)))
    (λ q i. elim (insert_cases met v q (subst (λ s. q ∈ s) e i)) [
      | inl itself ↦ subst (λ z. meets (cone_at g w p z) (closed_off g w p avoid v) ≡ true) (sym itself) here
      | inr old ↦ before.meet q old
    ])
    counted
  where
    here : meets (cone_at g w p v) (closed_off g w p avoid v) ≡ true
    here =
        let m = common (cone_at g w p v) met h in
        meets_wider (cone_at g w p m.0) (closed_off g w p avoid v) (cone_at g w p v) (closed_off g w p avoid v)
        (walk_within g dag w (cheap_at g w p) v m.0 m.1) (λ q i. i) (before.meet m.0 m.2)

free_to_take : (a b : Bool) → a ≡ true → b ≡ false → (a && not b) ≡ true
free_to_take a b h k = grind arith

-- the cone is taken
pub next_taken : (g : PebbleGame) (w : Window) (p : Position) (avoid : Vertices) (v : ℕ) (met more : Vertices) (count new : ℕ) → IsMet g w p avoid v met
    → count ≡ length (taken_cones g w p avoid v) → v ∈ wanted_at g w p → meets (cone_at g w p v) met ≡ false → more ≡ union met (cone_at g w p v) → new ≡ count + 1 → IsNext g w p avoid v more new
next_taken g w p avoid v met more count new before counted wants apart e one =
    next_at g w p avoid v true more new (free_to_take _ _ wants free)
    (λ q i. subst (λ s. q ∈ s) (sym e) (elim (cases q i) [
      | inl old ↦ left_of met (cone_at g w p v) q (before.has q old)
      | inr new ↦ right_of met (cone_at g w p v) q new
    ]))
    (λ q i. elim (either_two met (cone_at g w p v) q (subst (λ s. q ∈ s) e i)) [
      | inl old ↦ meets_wider (cone_at g w p q) (closed_off g w p avoid v) (cone_at g w p q) after (λ z j. j) wider (before.meet q old)
      | inr new ↦ common_meets (cone_at g w p q) after q (walk_itself g w (cheap_at g w p) q) (right_of avoid _ q (left_of (cone_at g w p v) (joined (taken_cones g w p avoid v)) q new))
    ])
    (let l : suc (length (taken_cones g w p avoid v)) ≡ new = omega (arith, counted, one) in sym l)
  where
    after : Vertices
    after = union avoid (union (cone_at g w p v) (joined (taken_cones g w p avoid v)))

    cases : (q : ℕ) → q ∈ after → (q ∈ closed_off g w p avoid v) ⊎ (q ∈ cone_at g w p v)
    cases q i = elim (either_two avoid (union (cone_at g w p v) (joined (taken_cones g w p avoid v))) q i) [
      | inl first ↦ inl (left_of avoid (joined (taken_cones g w p avoid v)) q first)
      | inr rest ↦ elim (either_two (cone_at g w p v) (joined (taken_cones g w p avoid v)) q rest) [
        | inl new ↦ inr new
        | inr old ↦ inl (right_of avoid (joined (taken_cones g w p avoid v)) q old)
      ]
    ]

    wider : IsWithin (closed_off g w p avoid v) after
    wider q i = elim (either_two avoid (joined (taken_cones g w p avoid v)) q i) [
      | inl first ↦ left_of avoid _ q first
      | inr old ↦ right_of avoid _ q (right_of (cone_at g w p v) (joined (taken_cones g w p avoid v)) q old)
    ]

    free : meets (cone_at g w p v) (closed_off g w p avoid v) ≡ false
    free = elim (cases_Bool (meets (cone_at g w p v) (closed_off g w p avoid v))) as (λ _. meets (cone_at g w p v) (closed_off g w p avoid v) ≡ false) [
      | inl is ↦ absurd (differ _ (meets_wider (cone_at g w p v) (closed_off g w p avoid v) (cone_at g w p v) met (λ q i. i) before.has is) apart)
      | inr out ↦ out
    ]
      where
        differ : (b : Bool) → b ≡ true → b ≡ false → ⊥
        differ b t f = grind arith
