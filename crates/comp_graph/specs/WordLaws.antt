-- What the four words of a set say of its members, and back.
use Rattle.std.proofs.Common.{◌≡◌, ℕ, ◌+◌, ◌*◌, ◌%◌, ◌^◌, ◌<◌, Bool, true, false, cond, zero, suc, List, [], ◌∷◌, length, get_or, ltb, eqb, ◌&&◌, refl, sym, ap, ◌∙◌, inl, inr, arith}
use Rattle.std.specs.Ordering.{nat_cmp}
use Rattle.std.specs.Int.{bit_at}
use Rattle.std.specs.FinSet as set
use Rattle.std.proofs.lemmas.Bool.{cases_lt}
use Rattle.std.proofs.lemmas.Bool.Decides.{nat_tests}
use Rattle.std.proofs.lemmas.Nat.{div-mul-add, mod-mul-add}
use Rattle.std.proofs.lemmas.Nat.Bits.{bit_at_cat_low, bit_at_cat_high, bit_at-lt, same_from_bits_below}
use Rattle.std.proofs.Math.Nat.{pow-suc}
use Rattle.comp_graph.specs.Sets.{has_set_below}
use Rattle.comp_graph.specs.Words.{bits_below, has_bit, set_of_words, word_of, words_of, AreWords}

pub bits_below-lt : (p : ℕ → Bool) (n : ℕ) → bits_below p n < 2 ^ n
unfolding bits_below
bits_below-lt p zero = omega arith
bits_below-lt p (suc n) =
    let rest = bits_below-lt p n in
    let twice = pow-suc 2 n in
    elim (p n) as (λ b. cond b 1 0 * 2 ^ n + bits_below p n < 2 ^ suc n) [ true ↦ omega (arith, rest, twice) | false ↦ omega (arith, rest, twice) ]

one_bit : (b : Bool) (i : ℕ) → i ≡ 0 → bit_at (cond b 1 0) i ≡ cond b 1 0
one_bit true i e = ap (bit_at 1) e
one_bit false i e = ap (bit_at 0) e

pub bit_at-bits_below : (p : ℕ → Bool) (n i : ℕ) → i < n → bit_at (bits_below p n) i ≡ cond (p i) 1 0
unfolding bits_below
bit_at-bits_below p zero i h = absurd (omega arith)
bit_at-bits_below p (suc n) i h =
    let high : ℕ = cond (p n) 1 0 in
    let low : ℕ = bits_below p n in
    elim (cases_lt i n) [
      | inl l ↦ bit_at_cat_low high n low i l ∙ bit_at-bits_below p n i l
      | inr g ↦
          let same : i ≡ n = omega arith in
          bit_at_cat_high high n low i (bits_below-lt p n) g ∙ one_bit (p n) _ (omega arith) ∙ ap (λ j. cond (p j) 1 0) (sym same)
    ]

bit_by_test : (b : ℕ) → b < 2 → cond (eqb b 1) 1 0 ≡ b
bit_by_test b h = grind (arith, nat_tests)

pub contains-set_of_words : (words : List ℕ) (v : ℕ) → set.contains (set_of_words words) v ≡ (ltb v 256 && has_bit words v)
unfolding set_of_words
contains-set_of_words words v = has_set_below (has_bit words) 256 v

-- the word k has the bit i where the number k * 64 + i is a member
pub bit_at-word_of : (s : set.FinSet nat_cmp) (k i : ℕ) → i < 64 → bit_at (word_of s k) i ≡ cond (set.contains s (k * 64 + i)) 1 0
unfolding word_of
bit_at-word_of s k i h = bit_at-bits_below (λ j. set.contains s (k * 64 + j)) 64 i h

pub word_of-lt : (s : set.FinSet nat_cmp) (k : ℕ) → word_of s k < 2 ^ 64
unfolding word_of
word_of-lt s k = bits_below-lt (λ j. set.contains s (k * 64 + j)) 64

pub word_of-set_of_words : (words : List ℕ) (k : ℕ) → k < 4 → get_or words k 0 < 2 ^ 64 → word_of (set_of_words words) k ≡ get_or words k 0
word_of-set_of_words words k small fits =
    same_from_bits_below 64 (word_of (set_of_words words) k) (get_or words k 0) (word_of-lt _ k) fits (λ i h.
    let w = get_or words k 0 in
    let here : has_bit words (k * 64 + i) ≡ eqb (bit_at w i) 1 =
    ap (λ j. eqb (bit_at (get_or words j 0) ((k * 64 + i) % 64)) 1) (div-mul-add k 64 i h)
    ∙ ap (λ j. eqb (bit_at w j) 1) (mod-mul-add k 64 i h) in
    let within : ltb (k * 64 + i) 256 ≡ true = grind (arith, nat_tests) in
    bit_at-word_of (set_of_words words) k i h
    ∙ ap (λ b. cond b 1 0) (contains-set_of_words words (k * 64 + i) ∙ ap (λ b. b && has_bit words (k * 64 + i)) within ∙ here)
    ∙ bit_by_test (bit_at w i) (bit_at-lt w i))

four_items : (words : List ℕ) → length words ≡ 4 → get_or words 0 0 ∷ get_or words 1 0 ∷ get_or words 2 0 ∷ get_or words 3 0 ∷ [] ≡ words
four_items [] e = absurd (omega arith)
four_items (a ∷ []) e = absurd (omega arith)
four_items (a ∷ b ∷ []) e = absurd (omega arith)
four_items (a ∷ b ∷ c ∷ []) e = absurd (omega arith)
four_items (a ∷ b ∷ c ∷ d ∷ []) e = refl
four_items (a ∷ b ∷ c ∷ d ∷ x ∷ xs) e = absurd (omega arith)

pub words_of-set_of_words : (words : List ℕ) → AreWords words → words_of (set_of_words words) ≡ words
words_of-set_of_words words h =
    let same = λ (k : ℕ) (l : k < 4). word_of-set_of_words words k l (h.fit k) in
    (λ i. same 0 (omega arith) i ∷ same 1 (omega arith) i ∷ same 2 (omega arith) i ∷ same 3 (omega arith) i ∷ [])
    ∙ four_items words h.four
