-- The numbers of the vertices of a part, and sets cut to it.
use Rattle.std.proofs.Common.{◌≡◌, ℕ, zero, suc, ◌≤◌, ◌<◌, true, false, cond, ltb, eqb, ◌&&◌, ◌⊎◌, inl, inr, sym, refl, ap, ◌∙◌, subst, arith}
use Rattle.std.proofs.lemmas.Bool.Decides.{nat_tests}
use Rattle.std.specs.FinSet.{contains, insert, remove, empty}
use Rattle.comp_graph.specs.Vertices.{Vertices, ◌∈◌, ◌∉◌, AllBelow, IsWithin, size, count_below}
use Rattle.comp_graph.specs.Sets.{membership, same, has_set_below, has_insert, has_remove}
use Rattle.comp_graph.proofs.Sets.{count_below-in, count_below-out, count_below-grows, count_below-less, by_insert, size_empty, size_insert_new, size_insert_le}
use Rattle.std.proofs.lemmas.Bool.{cases_Bool, cases_lt}
use Rattle.part_bounds.specs.Cuts.{place, vertex_at, cut}

pub place_none : (part : Vertices) → place part zero ≡ 0
unfolding count_below
place_none part = refl

-- ---- the vertex at a place

-- v is the vertex of the part below n that gets the number k
pub record IsAt (part : Vertices) (n k v : ℕ) : Type 0 where
  pub member : v ∈ part
  pub below : v < n
  pub placed : place part v ≡ k

pub vertex_here : (part : Vertices) (n k : ℕ) → n ∈ part → place part n ≡ k → vertex_at part (suc n) k ≡ n
unfolding vertex_at
vertex_here part n k member placed = ap (λ b. cond b n (vertex_at part n k)) (tests member placed)
  where
    tests : n ∈ part → place part n ≡ k → (contains part n && eqb (place part n) k) ≡ true
    tests a b = grind (arith, nat_tests)

pub vertex_before : (part : Vertices) (n k : ℕ) → (contains part n && eqb (place part n) k) ≡ false → vertex_at part (suc n) k ≡ vertex_at part n k
unfolding vertex_at
vertex_before part n k h = ap (λ b. cond b n (vertex_at part n k)) h

pub is_at : (part : Vertices) (n k : ℕ) → k < place part n → IsAt part n k (vertex_at part n k)
is_at part zero k h = absurd (let none = place_none part in omega arith)
is_at part (suc n) k h = elim (cases_Bool (contains part n && eqb (place part n) k)) [
  | inl here ↦
      let is = tested here in
      subst (IsAt part (suc n) k) (sym (vertex_here part n k is.0 is.1)) (record { member = is.0; below = omega arith; placed = is.1 })
  | inr other ↦
      let old = is_at part n k (lower other) in
      subst (IsAt part (suc n) k) (sym (vertex_before part n k other)) (record { member = old.member; below = let below = old.below in omega arith; placed = old.placed })
]
  where
    tested : (contains part n && eqb (place part n) k) ≡ true → (n ∈ part) × (place part n ≡ k)
    tested e = (grind (arith, nat_tests), grind (arith, nat_tests))

    lower : (contains part n && eqb (place part n) k) ≡ false → k < place part n
    lower e = elim (cases_Bool (contains part n)) [
      | inl member ↦ let next = count_below-in part n member in let apart = other_place member e in grind arith
      | inr missing ↦ let next = count_below-out part n missing in omega arith
    ]
      where
        other_place : n ∈ part → (contains part n && eqb (place part n) k) ≡ false → place part n ≡ k → ⊥
        other_place a b c = grind (arith, nat_tests)

pub vertex_at_past : (part : Vertices) (n k : ℕ) → place part n ≤ k → vertex_at part n k ≡ 0
unfolding vertex_at
vertex_at_past part zero k h = refl
vertex_at_past part (suc n) k h = vertex_before part n k (elim (cases_Bool (contains part n)) as (λ _. (contains part n && eqb (place part n) k) ≡ false) [
  | inl member ↦ let next = count_below-in part n member in past member (omega arith)
  | inr missing ↦ out missing
]) ∙ vertex_at_past part n k (let grows = count_below-grows part n in omega arith)
  where
    past : n ∈ part → place part n < k → (contains part n && eqb (place part n) k) ≡ false
    past a b = grind (arith, nat_tests)

    out : n ∉ part → (contains part n && eqb (place part n) k) ≡ false
    out a = grind (arith, nat_tests)

-- two members with one place are one
pub one_at : (part : Vertices) (v w : ℕ) → v ∈ part → w ∈ part → place part v ≡ place part w → v ≡ w
one_at part v w hv hw e = elim (compared v w) [
  | inl less ↦ absurd (let apart = count_below-less part v w hv less in omega arith)
  | inr rest ↦ elim rest [
    | inl more ↦ absurd (let apart = count_below-less part w v hw more in omega arith)
    | inr is ↦ is
  ]
]
  where
    compared : (v w : ℕ) → (v < w) ⊎ ((w < v) ⊎ (v ≡ w))
    compared v w = grind arith

pub vertex_at_place : (part : Vertices) (n v : ℕ) → v ∈ part → v < n → vertex_at part n (place part v) ≡ v
vertex_at_place part n v h below =
    let at = is_at part n (place part v) (count_below-less part v n h below) in
    one_at part _ v at.member h at.placed

-- ---- cut sets

pub has_cut : (part : Vertices) (n : ℕ) (s : Vertices) (k : ℕ) → contains (cut part n s) k ≡ (ltb k (place part n) && contains s (vertex_at part n k))
has_cut part n s k = has_set_below (λ k. contains s (vertex_at part n k)) (place part n) k

-- a number of the part is in the cut set where its vertex is in the set
pub cut_below : (part : Vertices) (n : ℕ) (s : Vertices) (k : ℕ) → k ∈ cut part n s → k < place part n
cut_below part n s k h = let e = has_cut part n s k in grind (arith, nat_tests)

pub cut_vertex : (part : Vertices) (n : ℕ) (s : Vertices) (k : ℕ) → k ∈ cut part n s → vertex_at part n k ∈ s
cut_vertex part n s k h = let e = has_cut part n s k in grind (arith, nat_tests)

pub in_cut : (part : Vertices) (n : ℕ) (s : Vertices) (k : ℕ) → k < place part n → vertex_at part n k ∈ s → k ∈ cut part n s
in_cut part n s k below h = let e = has_cut part n s k in grind (arith, nat_tests)

pub has_cut_place : (part : Vertices) (n : ℕ) (s : Vertices) (v : ℕ) → v ∈ part → v < n → contains (cut part n s) (place part v) ≡ contains s v
has_cut_place part n s v h below =
    let e = has_cut part n s (place part v) in
    let less = count_below-less part v n h below in
    let at = ap (contains s) (vertex_at_place part n v h below) in
    let whole : (ltb (place part v) (place part n) && contains s (vertex_at part n (place part v))) ≡ contains s (vertex_at part n (place part v)) = grind (arith, nat_tests) in
    e ∙ whole ∙ at

pub cut_within : (part : Vertices) (n : ℕ) (s t : Vertices) → IsWithin s t → IsWithin (cut part n s) (cut part n t)
cut_within part n s t within k h = in_cut part n t k (cut_below part n s k h) (within _ (cut_vertex part n s k h))

pub cut_empty : (part : Vertices) (n : ℕ) → cut part n empty ≡ empty
cut_empty part n = same _ _ (λ k. let e = has_cut part n empty k in grind (arith, membership))

module _ (part : Vertices) (n : ℕ) (s : Vertices) (v : ℕ) where
  -- for a number of the part, its vertex is v just where it is the number of v
  same_test : (k : ℕ) → v ∈ part → v < n → k < place part n → eqb (vertex_at part n k) v ≡ eqb k (place part v)
  same_test k h below less =
      let at = is_at part n k less in
      tests (vertex_at part n k) (λ e. sym at.placed ∙ ap (place part) e) (λ e. ap (vertex_at part n) e ∙ vertex_at_place part n v h below)
    where
      tests : (w : ℕ) → (w ≡ v → k ≡ place part v) → (k ≡ place part v → w ≡ v) → eqb w v ≡ eqb k (place part v)
      tests w a b = grind (arith, nat_tests)

  -- the vertex of a number of the part is none outside it
  other_test : (k : ℕ) → v ∉ part → k < place part n → eqb (vertex_at part n k) v ≡ false
  other_test k h less = let at = is_at part n k less in tests (vertex_at part n k) (λ e. no_both (sym (ap (contains part) e) ∙ at.member) h)
    where
      tests : (w : ℕ) → (w ≡ v → ⊥) → eqb w v ≡ false
      tests w a = grind (arith, nat_tests)

      no_both : v ∈ part → v ∉ part → ⊥
      no_both a b = cc

  pub cut_insert : v ∈ part → v < n → cut part n (insert s v) ≡ insert (cut part n s) (place part v)
  cut_insert h below = same _ _ (λ k.
      let left = has_cut part n (insert s v) k in
      let right = has_insert (cut part n s) (place part v) k in
      let old = has_cut part n s k in
      let more = has_insert s v (vertex_at part n k) in
      elim (cases_lt k (place part n)) [
        | inl less ↦ let test = same_test k h below less in grind (arith, nat_tests)
        | inr past ↦ let placed = count_below-less part v n h below in grind (arith, nat_tests)
      ])

  pub cut_remove : v ∈ part → v < n → cut part n (remove s v) ≡ remove (cut part n s) (place part v)
  cut_remove h below = same _ _ (λ k.
      let left = has_cut part n (remove s v) k in
      let right = has_remove (cut part n s) (place part v) k in
      let old = has_cut part n s k in
      let less = has_remove s v (vertex_at part n k) in
      elim (cases_lt k (place part n)) [
        | inl low ↦ let test = same_test k h below low in grind (arith, nat_tests)
        | inr past ↦ let placed = count_below-less part v n h below in grind (arith, nat_tests)
      ])

  pub cut_insert_other : v ∉ part → cut part n (insert s v) ≡ cut part n s
  cut_insert_other h = same _ _ (λ k.
      let left = has_cut part n (insert s v) k in
      let old = has_cut part n s k in
      let more = has_insert s v (vertex_at part n k) in
      elim (cases_lt k (place part n)) [
        | inl low ↦ let test = other_test k h low in grind (arith, nat_tests)
        | inr past ↦ grind (arith, nat_tests)
      ])

  pub cut_remove_other : v ∉ part → cut part n (remove s v) ≡ cut part n s
  cut_remove_other h = same _ _ (λ k.
      let left = has_cut part n (remove s v) k in
      let old = has_cut part n s k in
      let less = has_remove s v (vertex_at part n k) in
      elim (cases_lt k (place part n)) [
        | inl low ↦ let test = other_test k h low in grind (arith, nat_tests)
        | inr past ↦ grind (arith, nat_tests)
      ])

-- a cut set has no more members
pub size_cut : (part : Vertices) (n : ℕ) → AllBelow n part → (s : Vertices) → size (cut part n s) ≤ size s
size_cut part n below = by_insert (λ s. size (cut part n s) ≤ size s)
    (let e = ap size (cut_empty part n) in let none = size_empty in omega arith)
    (λ s k new before. grown s k new before)
  where
    grown : (s : Vertices) (k : ℕ) → k ∉ s → size (cut part n s) ≤ size s → size (cut part n (insert s k)) ≤ size (insert s k)
    grown s k new before = elim (cases_Bool (contains part k)) [
      | inl member ↦
          let e = ap size (cut_insert part n s k member (below.below k member)) in
          let one = size_insert_le (cut part n s) (place part k) in
          let more = size_insert_new s k new in
          omega arith
      | inr other ↦
          let e = ap size (cut_insert_other part n s k other) in
          let more = size_insert_new s k new in
          omega arith
    ]
