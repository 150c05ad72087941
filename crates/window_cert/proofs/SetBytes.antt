-- The bytes of a set.
use Rattle.std.proofs.Common.{◌≡◌, ℕ, zero, suc, ◌+◌, ◌*◌, ◌^◌, ◌≤◌, ◌<◌, Bool, true, false, cond, List, [], ◌∷◌, ◌++◌, refl, sym, ap, ◌∙◌, arith, append_assoc}
use Rattle.std.proofs.Math.Nat.{pow-suc}
use Rattle.std.specs.FinSet.{contains}
use Rattle.comp_graph.specs.WordLaws.{bits_below-lt}
use Rattle.comp_graph.specs.Vertices.{Vertices}
use Rattle.comp_graph.specs.Words.{bits_below}
use Rattle.window_cert.specs.Bytes.{byte_of, first_bytes}

-- ---- one bit more

bits_more : (p : ℕ → Bool) (i : ℕ) → bits_below p (i + 1) ≡ cond (p i) 1 0 * 2 ^ i + bits_below p i
unfolding bits_below
bits_more p i = ap (bits_below p) next
  where
    next : i + 1 ≡ suc i
    next = omega arith

pub bit_set : (p : ℕ → Bool) (i value power : ℕ) → value ≡ bits_below p i → power ≡ 2 ^ i → p i ≡ true → value + power ≡ bits_below p (i + 1)
bit_set p i value power low high is =
    let more = bits_more p i ∙ ap (λ b. cond b 1 0 * 2 ^ i + bits_below p i) is in
    omega arith

pub bit_clear : (p : ℕ → Bool) (i value : ℕ) → value ≡ bits_below p i → p i ≡ false → value ≡ bits_below p (i + 1)
bit_clear p i value low is =
    let more = bits_more p i ∙ ap (λ b. cond b 1 0 * 2 ^ i + bits_below p i) is in
    omega arith

pub power_more : (i power : ℕ) → power ≡ 2 ^ i → power * 2 ≡ 2 ^ (i + 1)
power_more i power is = let more = pow-suc 2 i in let next : 2 ^ (i + 1) ≡ 2 ^ suc i = ap (λ j. 2 ^ j) (one_more i) in omega arith
  where
    one_more : (i : ℕ) → i + 1 ≡ suc i
    one_more i = omega arith

pub power_small : (i : ℕ) → i < 8 → 2 ^ i ≤ 128
power_small zero l = omega arith
power_small (suc zero) l = omega arith
power_small (suc (suc zero)) l = omega arith
power_small (suc (suc (suc zero))) l = omega arith
power_small (suc (suc (suc (suc zero)))) l = omega arith
power_small (suc (suc (suc (suc (suc zero))))) l = omega arith
power_small (suc (suc (suc (suc (suc (suc zero)))))) l = omega arith
power_small (suc (suc (suc (suc (suc (suc (suc zero))))))) l = omega arith
power_small (suc (suc (suc (suc (suc (suc (suc (suc i)))))))) l = absurd (omega arith)

pub no_bits : (p : ℕ → Bool) → 0 ≡ bits_below p 0
unfolding bits_below
no_bits p = refl

pub value_below : (p : ℕ → Bool) (i value : ℕ) → value ≡ bits_below p i → value < 2 ^ i
value_below p i value is = let small = bits_below-lt p i in omega arith

-- the bits of a byte are those of eight numbers
pub byte_done : (s : Vertices) (k value : ℕ) → value ≡ bits_below (λ i. contains s (8 * k + i)) 8 → value ≡ byte_of s k
unfolding byte_of
byte_done s k value is = is

-- ---- one byte more

pub no_bytes : (old : List ℕ) (s : Vertices) → old ≡ old ++ first_bytes 0 s
unfolding first_bytes
no_bytes [] s = refl
no_bytes (x ∷ old) s = ap (λ y. x ∷ y) (no_bytes old s)

pub first_more : (k : ℕ) (s : Vertices) → first_bytes (k + 1) s ≡ first_bytes k s ++ byte_of s k ∷ []
unfolding first_bytes
first_more k s = ap (λ k. first_bytes k s) next
  where
    next : k + 1 ≡ suc k
    next = omega arith

pub added_byte : (s : Vertices) (k : ℕ) (old bytes : List ℕ) → bytes ≡ old ++ first_bytes k s → bytes ++ byte_of s k ∷ [] ≡ old ++ first_bytes (k + 1) s
added_byte s k old bytes before =
    ap (λ x. x ++ byte_of s k ∷ []) before ∙ append_assoc old (first_bytes k s) (byte_of s k ∷ []) ∙ ap (λ x. old ++ x) (sym (first_more k s))
