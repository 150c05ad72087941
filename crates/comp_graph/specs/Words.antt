-- A set of numbers below 256 in four words of 64 bits: number v is bit v mod 64 of word v div 64.
use Rattle.std.specs.Prelude.{◌≡◌, ℕ, ◌+◌, ◌*◌, ◌/◌, ◌%◌, ◌^◌, ◌<◌, Bool, cond, zero, suc, List, [], ◌∷◌, length, nat_eq, slice_index}
use Rattle.std.specs.Ordering.{nat_cmp}
use Rattle.std.specs.Int.{bit_at}
use Rattle.std.specs.FinSet as set
use Rattle.comp_graph.specs.Vertices.{set_below}

-- the number with exactly those bits below n whose places pass a test
unfoldable pub bits_below : (ℕ → Bool) → ℕ → ℕ
bits_below p zero = 0
bits_below p (suc n) = cond (p n) 1 0 * 2 ^ n + bits_below p n

-- bit v mod 64 of word v div 64 is set
abbrev pub has_bit : List ℕ → ℕ → Bool
has_bit words v = nat_eq (bit_at (slice_index words (v / 64)) (v % 64)) 1

-- the set that four words stand for
unfoldable pub set_of_words : List ℕ → set.FinSet nat_cmp
set_of_words words = set_below (has_bit words) 256

-- the word k of a set
unfoldable pub word_of : set.FinSet nat_cmp → ℕ → ℕ
word_of s k = bits_below (λ i. set.contains s (k * 64 + i)) 64

-- the four words of a set
abbrev pub words_of : set.FinSet nat_cmp → List ℕ
words_of s = word_of s 0 ∷ word_of s 1 ∷ word_of s 2 ∷ word_of s 3 ∷ []

-- four words of 64 bits
pub record AreWords (words : List ℕ) : Type 0 where
  pub four : length words ≡ 4
  pub fit : (k : ℕ) → slice_index words k < 2 ^ 64
