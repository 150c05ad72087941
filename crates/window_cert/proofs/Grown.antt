-- A set read from its bytes, a bit at a time.
use Rattle.std.proofs.Common.{◌≡◌, ℕ, zero, suc, ◌+◌, ◌*◌, ◌^◌, ◌<◌, true, false, cond, eqb, [], ◌∷◌, ◌++◌, refl, sym, ap, ◌∙◌, ◌⊎◌, inl, inr, arith}
use Rattle.std.specs.Int.{bit_at}
use Rattle.std.specs.FinSet as set
use Rattle.std.proofs.lemmas.Bool.Decides.{nat_tests}
use Rattle.std.proofs.lemmas.Nat.Bits.{bit_at-lt, same_from_bits_below}
use Rattle.comp_graph.specs.Vertices.{Vertices, AllBelow}
use Rattle.comp_graph.specs.Sets.{membership}
use Rattle.comp_graph.specs.WordLaws.{bits_below-lt}
use Rattle.pebble_rules.proofs.Possible.{not_member}
use Rattle.window_cert.specs.Bytes.{byte_of, first_bytes}
use Rattle.window_cert.proofs.OneSet.{bit_of}
use Rattle.window_cert.proofs.SetBytes.{first_more}

-- the first bits of byte k of t are those of b, and t has the members of s before them and no others
pub record IsGrown (s : Vertices) (k b i : ℕ) (t : Vertices) : Type 0 where
  pub below : AllBelow (8 * k + i) t
  pub old : (v : ℕ) → v < 8 * k → set.contains t v ≡ set.contains s v
  pub bits : (j : ℕ) → j < i → set.contains t (8 * k + j) ≡ eqb (bit_at b j) 1

pub not_grown : (s : Vertices) (k b : ℕ) → AllBelow (8 * k) s → IsGrown s k b 0 s
not_grown s k b all = record { below = record { below = λ v h. let less = all.below v h in omega arith }; old = λ v l. refl; bits = λ j l. absurd (omega arith) }

less_or_last : (j i : ℕ) → j < i + 1 → (j < i) ⊎ (j ≡ i)
less_or_last j i l = grind arith

insert_other : (t : Vertices) (u v : ℕ) → v < u → set.contains (set.insert t u) v ≡ set.contains t v
insert_other t u v l = grind (arith, membership)

insert_same : (t : Vertices) (u : ℕ) → set.contains (set.insert t u) u ≡ true
insert_same t u = grind (arith, membership)

insert_below : (t : Vertices) (n v : ℕ) → AllBelow n t → set.contains (set.insert t n) v ≡ true → v < n + 1
insert_below t n v all h = elim (parts t n v h) [ inl here ↦ omega arith | inr old ↦ let less = all.below v old in omega arith ]
  where
    parts : (t : Vertices) (n v : ℕ) → set.contains (set.insert t n) v ≡ true → (v ≡ n) ⊎ (set.contains t v ≡ true)
    parts t n v h = grind (arith, membership)

pub grow_set : (s : Vertices) (k b i : ℕ) (t : Vertices) → IsGrown s k b i t → eqb (bit_at b i) 1 ≡ true → IsGrown s k b (i + 1) (set.insert t (8 * k + i))
grow_set s k b i t is one = record {
  below = record { below = λ v h. let less = insert_below t (8 * k + i) v is.below h in omega arith };
  old = λ v l. insert_other t (8 * k + i) v (omega arith) ∙ is.old v l;
  bits = λ j l. elim (less_or_last j i l) [
    | inl less ↦ insert_other t (8 * k + i) (8 * k + j) (omega arith) ∙ is.bits j less
    | inr here ↦ ap (λ j. set.contains (set.insert t (8 * k + i)) (8 * k + j)) here ∙ insert_same t (8 * k + i) ∙ sym one ∙ ap (λ j. eqb (bit_at b j) 1) (sym here)
  ];
}

pub grow_clear : (s : Vertices) (k b i : ℕ) (t : Vertices) → IsGrown s k b i t → eqb (bit_at b i) 1 ≡ false → IsGrown s k b (i + 1) t
grow_clear s k b i t is none = record {
  below = record { below = λ v h. let less = is.below.below v h in omega arith };
  old = is.old;
  bits = λ j l. elim (less_or_last j i l) [
    | inl less ↦ is.bits j less
    | inr here ↦
        ap (λ j. set.contains t (8 * k + j)) here ∙ not_member _ (λ h. let less = is.below.below (8 * k + i) h in omega arith) ∙ sym none
        ∙ ap (λ j. eqb (bit_at b j) 1) (sym here)
  ];
}

bit_by_test : (b : ℕ) → b < 2 → cond (eqb b 1) 1 0 ≡ b
bit_by_test b h = grind (arith, nat_tests)

byte_small : (s : Vertices) (k : ℕ) → byte_of s k < 2 ^ 8
unfolding byte_of
byte_small s k = bits_below-lt (λ i. set.contains s (8 * k + i)) 8

grown_byte : (s : Vertices) (k b : ℕ) (t : Vertices) → b < 256 → IsGrown s k b 8 t → byte_of t k ≡ b
grown_byte s k b t small is =
    same_from_bits_below 8 (byte_of t k) b (byte_small t k) small
    (λ i l. bit_of t k i l ∙ ap (λ x. cond {A = ℕ} x 1 0) (is.bits i l) ∙ bit_by_test (bit_at b i) (bit_at-lt b i))

same_byte : (s t : Vertices) (k : ℕ) → ((i : ℕ) → i < 8 → set.contains t (8 * k + i) ≡ set.contains s (8 * k + i)) → byte_of t k ≡ byte_of s k
same_byte s t k same =
    same_from_bits_below 8 (byte_of t k) (byte_of s k) (byte_small t k) (byte_small s k)
    (λ i l. bit_of t k i l ∙ ap (λ x. cond {A = ℕ} x 1 0) (same i l) ∙ sym (bit_of s k i l))

same_first : (k : ℕ) (s t : Vertices) → ((v : ℕ) → v < 8 * k → set.contains t v ≡ set.contains s v) → first_bytes k t ≡ first_bytes k s
unfolding first_bytes
same_first zero s t same = refl
same_first (suc k) s t same =
    let before = same_first k s t (λ v l. same v (omega arith)) in
    let last = same_byte s t k (λ i l. same (8 * k + i) (omega arith)) in
    (λ i. before i ++ last i ∷ [])

pub grown_bytes : (s : Vertices) (k b : ℕ) (t : Vertices) → b < 256 → IsGrown s k b 8 t → first_bytes (k + 1) t ≡ first_bytes k s ++ b ∷ []
grown_bytes s k b t small is =
    let before = same_first k s t is.old in
    let last = grown_byte s k b t small is in
    first_more k t ∙ (λ i. before i ++ last i ∷ [])
