-- The first words of a set, and sets whose members they hold.
use Rattle.std.proofs.Common.{◌≡◌, ℕ, zero, suc, ◌+◌, ◌*◌, ◌/◌, ◌%◌, ◌^◌, ◌<◌, ◌≤◌, Bool, true, false, cond, eqb, ltb, ◌&&◌, [], ◌∷◌, length, take, get_or, ◌⊎◌, inl, inr, refl, sym, ap, ◌∙◌, arith}
use Rattle.std.specs.Int.{bit_at}
use Rattle.std.specs.FinSet as sets
use Rattle.std.proofs.lemmas.List.{length-take-le, get_or-take, get_or_past}
use Rattle.std.proofs.lemmas.Bool.{cases_lt}
use Rattle.std.proofs.lemmas.Bool.Decides.{nat_tests}
use Rattle.std.proofs.lemmas.Nat.Bits.{bit_at-zero}
use Rattle.comp_graph.specs.Sets.{same}
use Rattle.comp_graph.specs.Vertices.{Vertices, AllBelow}
use Rattle.comp_graph.specs.Words.{bits_below, has_bit, set_of_words, word_of, words_of}
use Rattle.comp_graph.specs.WordLaws.{contains-set_of_words, bit_at-word_of}

four_words : (s : Vertices) (k : ℕ) → k < 4 → get_or (words_of s) k 0 ≡ word_of s k
four_words s zero h = refl
four_words s (suc zero) h = refl
four_words s (suc (suc zero)) h = refl
four_words s (suc (suc (suc zero))) h = refl
four_words s (suc (suc (suc (suc k)))) h = absurd (omega (arith, h))

bit_test : (b : Bool) → eqb (cond b 1 0) 1 ≡ b
bit_test true = refl
bit_test false = refl

-- bit v of a set's word
bit_of : (s : Vertices) (v : ℕ) → eqb (bit_at (word_of s (v / 64)) (v % 64)) 1 ≡ sets.contains s v
bit_of s v =
    let place : v / 64 * 64 + v % 64 ≡ v = omega arith in let low : v % 64 < 64 = omega arith in
    ap (λ b. eqb b 1) (bit_at-word_of s (v / 64) (v % 64) low) ∙ bit_test (sets.contains s (v / 64 * 64 + v % 64)) ∙ ap (sets.contains s) place

-- a set of vertices below 64 times `words` is that of its first words
pub read_back : (words : ℕ) (s : Vertices) → words ≤ 4 → AllBelow (64 * words) s → set_of_words (take words (words_of s)) ≡ s
read_back words s narrow is = same (set_of_words (take words (words_of s))) s (λ v. contains-set_of_words (take words (words_of s)) v ∙ at v (cases_lt v (64 * words)))
  where
    inside : (v : ℕ) → v < 64 * words → has_bit (take words (words_of s)) v ≡ sets.contains s v
    inside v h =
        let word : v / 64 < words = omega (arith, h) in
        ap (λ w. eqb (bit_at w (v % 64)) 1) (get_or-take words (words_of s) (v / 64) 0 word ∙ four_words s (v / 64) (omega (arith, word, narrow))) ∙ bit_of s v

    outside : (b : Bool) → b ≡ true → AllBelow (64 * words) s → (v : ℕ) → sets.contains s v ≡ b → v < 64 * words
    outside b e is v h = is.below v (h ∙ e)

    none : (v : ℕ) → 64 * words ≤ v → (b : Bool) → sets.contains s v ≡ b → b ≡ false
    none v h true e = let less = is.below v e in absurd (omega (arith, less, h))
    none v h false e = refl

    at : (v : ℕ) → (v < 64 * words) ⊎ (64 * words ≤ v) → (ltb v 256 && has_bit (take words (words_of s)) v) ≡ sets.contains s v
    at v (inl h) = let small : ltb v 256 ≡ true = grind (arith, nat_tests, h, narrow) in ap (λ b. b && has_bit (take words (words_of s)) v) small ∙ inside v h
    at v (inr h) =
        let past : length (take words (words_of s)) ≤ v / 64 = omega (arith, h, length-take-le words (words_of s) narrow) in
        let empty : has_bit (take words (words_of s)) v ≡ false = ap (λ w. eqb (bit_at w (v % 64)) 1) (get_or_past (take words (words_of s)) (v / 64) 0 past) ∙ ap (λ b. eqb b 1) (bit_at-zero (v % 64)) in
        and_false (ltb v 256) (has_bit (take words (words_of s)) v) empty ∙ sym (none v h (sets.contains s v) refl)
      where
        and_false : (a b : Bool) → b ≡ false → (a && b) ≡ false
        and_false true b e = e
        and_false false b e = refl

bits_none : (p : ℕ → Bool) (n : ℕ) → ((i : ℕ) → i < n → p i ≡ false) → bits_below p n ≡ 0
unfolding bits_below
bits_none p zero h = refl
bits_none p (suc n) h = let rest = bits_none p n (λ i l. h i (omega (arith, l))) in let here = h n (omega arith) in ap (λ b. cond b 1 0 * 2 ^ n + bits_below p n) here ∙ omega (arith, rest)

-- the words past those are 0
pub high_word : (words : ℕ) (s : Vertices) → AllBelow (64 * words) s → (k : ℕ) → words ≤ k → word_of s k ≡ 0
unfolding word_of
high_word words s is k h = bits_none (λ i. sets.contains s (k * 64 + i)) 64 (λ i l. none i (sets.contains s (k * 64 + i)) refl)
  where
    none : (i : ℕ) → (b : Bool) → sets.contains s (k * 64 + i) ≡ b → b ≡ false
    none i true e = let less = is.below (k * 64 + i) e in absurd (omega (arith, less, h))
    none i false e = refl

-- where they are 0, each vertex is below 64 times `words`
pub narrow_from : (words : ℕ) (s : Vertices) → AllBelow 256 s → ((k : ℕ) → words ≤ k → k < 4 → word_of s k ≡ 0) → AllBelow (64 * words) s
narrow_from words s all zeros = record { below = λ v member. below v member (cases_lt v (64 * words)) }
  where
    below : (v : ℕ) → sets.contains s v ≡ true → (v < 64 * words) ⊎ (64 * words ≤ v) → v < 64 * words
    below v member (inl h) = h
    below v member (inr h) =
        let top = all.below v member in
        let empty = zeros (v / 64) (omega (arith, h)) (omega (arith, top)) in
        let bad : true ≡ false = sym member ∙ sym (bit_of s v) ∙ ap (λ w. eqb (bit_at w (v % 64)) 1) empty ∙ ap (λ b. eqb b 1) (bit_at-zero (v % 64)) in cc

-- a set of vertices is that of its four words
pub set_of_words-words_of : (s : Vertices) → AllBelow 256 s → set_of_words (words_of s) ≡ s
set_of_words-words_of s is = read_back 4 s (omega arith) is

-- a set of vertices below 64 is that of its first word
pub set_of_first_word : (s : Vertices) (w : ℕ) → AllBelow 64 s → w ≡ word_of s 0 → set_of_words (w ∷ 0 ∷ 0 ∷ 0 ∷ []) ≡ s
set_of_first_word s w is first =
    let none = λ (k : ℕ) (h : 1 ≤ k). sym (high_word 1 s is k h) in
    (λ i. set_of_words (first i ∷ none 1 (omega arith) i ∷ none 2 (omega arith) i ∷ none 3 (omega arith) i ∷ []))
    ∙ set_of_words-words_of s (record { below = λ v member. omega (arith, is.below v member) })
