-- A set has one spelling.
use Rattle.std.proofs.Common.{◌≡◌, ℕ, zero, suc, ◌+◌, ◌*◌, ◌/◌, ◌%◌, ◌≤◌, ◌<◌, Bool, true, false, cond, List, [], ◌∷◌, ◌++◌, length, refl, sym, ap, ◌∙◌, subst, ◌⊎◌, inl, inr, arith, append_assoc}
use Rattle.std.specs.Int.{bit_at}
use Rattle.std.specs.FinSet.{contains}
use Rattle.std.proofs.lemmas.List.{length-append}
use Rattle.comp_graph.specs.Vertices.{Vertices, AllBelow}
use Rattle.comp_graph.specs.Sets.{same}
use Rattle.comp_graph.specs.WordLaws.{bit_at-bits_below}
use Rattle.potential_cert.proofs.Codes.{split_one}
use Rattle.pebble_rules.proofs.Possible.{not_member}
use Rattle.window_cert.specs.Bytes.{bytes_in, byte_of, first_bytes, set_bytes}
use Rattle.window_cert.proofs.Begins.{IsOne}

-- bit i of byte k is set if vertex 8 k + i is a member
pub bit_of : (s : Vertices) (k i : ℕ) → i < 8 → bit_at (byte_of s k) i ≡ cond (contains s (8 * k + i)) 1 0
unfolding byte_of
bit_of s k i l = bit_at-bits_below (λ i. contains s (8 * k + i)) 8 i l

same_test : (a b : Bool) → cond {A = ℕ} a 1 0 ≡ cond b 1 0 → a ≡ b
same_test true true e = refl
same_test true false e = absurd (omega arith)
same_test false true e = absurd (omega arith)
same_test false false e = refl

head_or : ℕ → List ℕ → ℕ
head_or d [] = d
head_or d (x ∷ xs) = x

pub byte_apart : (a b : ℕ) (r s : List ℕ) → a ∷ r ≡ b ∷ s → (a ≡ b) × (r ≡ s)
unfolding head_or
byte_apart a b r s e = (ap (head_or a) e, (split_one (a ∷ []) (b ∷ []) r s refl e).1)

-- the last byte, cut from those before it
pub first_cut : (k : ℕ) (s : Vertices) (r : List ℕ) → first_bytes (suc k) s ++ r ≡ first_bytes k s ++ (byte_of s k ∷ r)
unfolding first_bytes
first_cut k s r = append_assoc (first_bytes k s) (byte_of s k ∷ []) r

none_first : (s : Vertices) (r : List ℕ) → first_bytes 0 s ++ r ≡ r
unfolding first_bytes
none_first s r = refl

less_or_last : (j k : ℕ) → j < suc k → (j < k) ⊎ (j ≡ k)
less_or_last j k l = grind arith

bytes_one : (k : ℕ) (x y : Vertices) (r s : List ℕ) → first_bytes k x ++ r ≡ first_bytes k y ++ s → ((j : ℕ) → j < k → byte_of x j ≡ byte_of y j) × (r ≡ s)
bytes_one zero x y r s e = (λ j l. absurd (omega arith), sym (none_first x r) ∙ e ∙ none_first y s)
bytes_one (suc k) x y r s e =
    let before = bytes_one k x y (byte_of x k ∷ r) (byte_of y k ∷ s) (sym (first_cut k x r) ∙ e ∙ first_cut k y s) in
    let last = byte_apart (byte_of x k) (byte_of y k) r s before.1 in (
      λ j l. elim (less_or_last j k l) [ inl less ↦ before.0 j less | inr here ↦ subst (λ j. byte_of x j ≡ byte_of y j) (sym here) last.0 ],
      last.1,
    )

-- if the bytes are the same, so are the members
members_one : (k : ℕ) (x y : Vertices) → ((j : ℕ) → j < k → byte_of x j ≡ byte_of y j) → (v : ℕ) → v < 8 * k → contains x v ≡ contains y v
members_one k x y each v l =
    let byte : v / 8 < k = omega arith in
    let bit : v % 8 < 8 = omega arith in
    let at : 8 * (v / 8) + v % 8 ≡ v = omega arith in
    let bits = sym (bit_of x (v / 8) (v % 8) bit) ∙ ap (λ b. bit_at b (v % 8)) (each (v / 8) byte) ∙ bit_of y (v / 8) (v % 8) bit in
    ap (contains x) (sym at) ∙ same_test (contains x (8 * (v / 8) + v % 8)) (contains y (8 * (v / 8) + v % 8)) bits ∙ ap (contains y) at

below_or_not : (v n : ℕ) → (v < n) ⊎ (n ≤ v)
below_or_not v n = grind arith

beyond : (n : ℕ) (s : Vertices) → AllBelow n s → (v : ℕ) → n ≤ v → contains s v ≡ false
beyond n s all v l = not_member _ (λ h. let below = all.below v h in omega arith)

-- sets below 8 k have one spelling in k bytes
pub first_one : (k : ℕ) → IsOne (first_bytes k) (AllBelow (8 * k))
first_one k x y r s a b e =
    let both = bytes_one k x y r s e in (
      same x y (λ v. elim (below_or_not v (8 * k)) [ inl less ↦ members_one k x y both.0 v less | inr more ↦ beyond (8 * k) x a v more ∙ sym (beyond (8 * k) y b v more) ]),
      both.1,
    )

pub below_bytes : (n : ℕ) (s : Vertices) → AllBelow n s → AllBelow (8 * bytes_in n) s
below_bytes n s all = record { below = λ v h. let less = all.below v h in omega arith }

pub set_one : (n : ℕ) → IsOne (set_bytes n) (AllBelow n)
set_one n x y r s a b e = first_one (bytes_in n) x y r s (below_bytes n x a) (below_bytes n y b) e

pub length_first : (k : ℕ) (s : Vertices) → length (first_bytes k s) ≡ k
unfolding first_bytes
length_first zero s = refl
length_first (suc k) s = let rest = length_first k s in let whole = length-append (first_bytes k s) (byte_of s k ∷ []) in omega arith
