-- The elements of a list whose places lie in a part.
use Rattle.std.proofs.Common.{◌≡◌, ℕ, zero, suc, ◌+◌, ◌≤◌, ◌<◌, Bool, true, false, cond, eqb, ◌&&◌, ◌⊎◌, List, [], ◌∷◌, ◌++◌, inl, inr, length, take, sym, refl, ap, ◌∙◌, arith, append-nil, length-append}
use Rattle.std.specs.Prelude.{Some, slice_get}
use Rattle.std.proofs.lemmas.List.{length-take-le}
use Rattle.std.proofs.lemmas.Bool.Decides.{nat_tests}
use Rattle.std.specs.FinSet.{contains}
use Rattle.comp_graph.specs.Vertices.{Vertices, ◌∉◌}
use Rattle.std.proofs.lemmas.Bool.{cases_Bool}
use Rattle.part_bounds.specs.Cuts.{place, vertex_at}
use Rattle.part_bounds.specs.Induced.{kept}
use Rattle.comp_graph.proofs.Sets.{count_below-in, count_below-out}
use Rattle.part_bounds.proofs.Places.{place_none, vertex_here, vertex_before}

-- ---- places in lists

pub get_front : {A : Type 0} (xs ys : List A) (k : ℕ) → k < length xs → slice_get (xs ++ ys) k ≡ slice_get xs k
get_front [] ys k h = absurd (omega arith)
get_front (x ∷ xs) ys zero h = refl
get_front (x ∷ xs) ys (suc k) h = get_front xs ys k (omega arith)

pub get_end : {A : Type 0} (xs : List A) (y : A) → slice_get (xs ++ y ∷ []) (length xs) ≡ Some y
get_end [] y = refl
get_end (x ∷ xs) y = get_end xs y

pub get_at : {A : Type 0} (xs : List A) (k : ℕ) → k < length xs → (x : A) × (slice_get xs k ≡ Some x)
get_at [] k h = absurd (omega arith)
get_at (x ∷ xs) zero h = (x, refl)
get_at (x ∷ xs) (suc k) h = get_at xs k (omega arith)

pub take_next : {A : Type 0} (xs : List A) (n : ℕ) (x : A) → slice_get xs n ≡ Some x → take (suc n) xs ≡ take n xs ++ x ∷ []
take_next [] n x e = absurd (cc)
take_next (y ∷ xs) zero x e = let is : y ≡ x = cc in ap (λ z. z ∷ []) is
take_next (y ∷ xs) (suc n) x e = ap (λ ys. y ∷ ys) (take_next xs n x e)

-- ---- what is kept

kept_by : {A : Type 0} (b : Bool) (x : A) (xs ys : List A) → cond b (x ∷ (xs ++ ys)) (xs ++ ys) ≡ cond b (x ∷ xs) xs ++ ys
kept_by true x xs ys = refl
kept_by false x xs ys = refl

kept_append : {A : Type 0} (s : Vertices) (at : ℕ) (xs ys : List A) → kept s at (xs ++ ys) ≡ kept s at xs ++ kept s (at + length xs) ys
kept_append s at [] ys = ap (λ k. kept s k ys) (let e : at ≡ at + 0 = omega arith in e)
kept_append s at (x ∷ xs) ys =
    ap (λ ls. cond (contains s at) (x ∷ ls) ls) (kept_append s (suc at) xs ys ∙ ap (λ k. kept s (suc at) xs ++ kept s k ys) (let e : suc at + length xs ≡ at + suc (length xs) = omega arith in e))
    ∙ kept_by (contains s at) x (kept s (suc at) xs) (kept s (at + suc (length xs)) ys)

-- one element more
pub kept_next : {A : Type 0} (s : Vertices) (xs : List A) (n : ℕ) (x : A) → slice_get xs n ≡ Some x → n < length xs → kept s 0 (take (suc n) xs) ≡ kept s 0 (take n xs) ++ cond (contains s n) (x ∷ []) []
kept_next s xs n x e less =
    ap (kept s 0) (take_next xs n x e) ∙ kept_append s 0 (take n xs) (x ∷ [])
    ∙ ap (λ k. kept s 0 (take n xs) ++ kept s k (x ∷ [])) (let cut = length-take-le n xs (omega arith) in let here : 0 + length (take n xs) ≡ n = omega arith in here)

pub length_kept : {A : Type 0} (s : Vertices) (xs : List A) (n : ℕ) → n ≤ length xs → length (kept s 0 (take n xs)) ≡ place s n
length_kept s xs zero h = sym (place_none s)
length_kept s xs (suc n) h =
    let before = length_kept s xs n (omega arith) in
    let next = get_at xs n (omega arith) in
    let more = ap length (kept_next s xs n next.0 next.1 (omega arith)) in
    elim (cases_Bool (contains s n)) [
      | inl member ↦
          (let cases = ap (λ b. length (kept s 0 (take n xs) ++ cond b (next.0 ∷ []) [])) member in
          let sum = length-append (kept s 0 (take n xs)) (next.0 ∷ []) in
          let placed = count_below-in s n member in
          omega arith)
      | inr out ↦
          (let cases = ap (λ b. length (kept s 0 (take n xs) ++ cond b (next.0 ∷ []) [])) out in
          let none = ap length (append-nil (kept s 0 (take n xs))) in
          let placed = count_below-out s n out in
          omega arith)
    ]

-- the element at a place of what is kept
pub get_kept : {A : Type 0} (s : Vertices) (xs : List A) (n : ℕ) → n ≤ length xs → (k : ℕ) → k < place s n → slice_get (kept s 0 (take n xs)) k ≡ slice_get xs (vertex_at s n k)
get_kept s xs zero h k less = absurd (let none = place_none s in omega arith)
get_kept s xs (suc n) h k less =
    let next = get_at xs n (omega arith) in
    let many = length_kept s xs n (omega arith) in
    let more = kept_next s xs n next.0 next.1 (omega arith) in
    ap (λ ls. slice_get ls k) more ∙ elim (cases_Bool (contains s n)) as (λ _. slice_get (kept s 0 (take n xs) ++ cond (contains s n) (next.0 ∷ []) []) k ≡ slice_get xs (vertex_at s (suc n) k)) [
      | inl member ↦
          ap (λ b. slice_get (kept s 0 (take n xs) ++ cond b (next.0 ∷ []) []) k) member
          ∙ elim (last_or_before k (place s n) (let placed = count_below-in s n member in omega arith)) as (λ _. slice_get (kept s 0 (take n xs) ++ next.0 ∷ []) k ≡ slice_get xs (vertex_at s (suc n) k)) [
            | inl e ↦
                ap (slice_get (kept s 0 (take n xs) ++ next.0 ∷ [])) (e ∙ sym many) ∙ get_end (kept s 0 (take n xs)) next.0 ∙ sym next.1
                ∙ ap (slice_get xs) (sym (vertex_here s n k member (sym e)))
            | inr lower ↦
                get_front (kept s 0 (take n xs)) (next.0 ∷ []) k (omega arith) ∙ get_kept s xs n (omega arith) k lower
                ∙ ap (slice_get xs) (sym (vertex_before s n k (apart lower)))
          ]
      | inr out ↦
          ap (λ b. slice_get (kept s 0 (take n xs) ++ cond b (next.0 ∷ []) []) k) out
          ∙ ap (λ ls. slice_get ls k) (append-nil (kept s 0 (take n xs)))
          ∙ get_kept s xs n (omega arith) k (let placed = count_below-out s n out in omega arith)
          ∙ ap (slice_get xs) (sym (vertex_before s n k (missing out)))
    ]
  where
    last_or_before : (k m : ℕ) → k < m + 1 → (k ≡ m) ⊎ (k < m)
    last_or_before k m h = grind arith

    apart : k < place s n → (contains s n && eqb (place s n) k) ≡ false
    apart lower = grind (arith, nat_tests)

    missing : n ∉ s → (contains s n && eqb (place s n) k) ≡ false
    missing out = grind (arith, nat_tests)
