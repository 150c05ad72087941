-- The numbers of a loop, one taken after the other.
use Rattle.std.proofs.Common.{◌≡◌, List, length, Some, ◌∷◌, min, ℤ, pos, negsuc, ◌+ℤ◌, ◌<ℤ◌, ◌≤ℤ◌, refl, sym, ap, ◌∙◌, ⊎_elim, arith, w64, SFits}
use Rattle.std.proofs.lemmas.Int.{ints}
use Rattle.std.proofs.lemmas.Bool.Decides.{leb_tells}
use Rattle.std.specs.Int.{saturate_signed}
use Rattle.std.specs.Iterator.{MakesProgress, item_count}
use Rattle.kernel_ast.specs.Steps.{numbers}
use Rattle.kernel_ast.proofs.Numbers.{numbers-end, numbers-step}

-- a number of 64 bits
fits_within : (z : ℤ) → SFits w64 z → (z ≤ℤ pos 9223372036854775807) × (negsuc 9223372036854775807 ≤ℤ z)
fits_within (pos n) h = (omega (arith, ints, h), omega (arith, ints))
fits_within (negsuc n) h = (omega (arith, ints), omega (arith, ints, h))

-- The next number, and those behind it: a sum beyond the greatest number of 64 bits is beyond the end too.
pub numbers_taken : (a end step next : ℤ) → a <ℤ end → pos 1 ≤ℤ step → SFits w64 end → SFits w64 a
    → next ≡ saturate_signed w64 (a +ℤ step) → numbers a end step ≡ a ∷ numbers next end step
numbers_taken a end step next h s end_fits a_fits e = numbers-step a end step s h ∙ ap (λ ns. a ∷ ns) (rest (a +ℤ step) refl)
  where
    top : end ≤ℤ pos 9223372036854775807
    top = (fits_within end end_fits).0

    low : negsuc 9223372036854775807 ≤ℤ a
    low = (fits_within a a_fits).1

    rest : (d : ℤ) → a +ℤ step ≡ d → numbers (a +ℤ step) end step ≡ numbers next end step
    rest (pos n) f =
        let cut : next ≡ pos (min n 9223372036854775807) = e ∙ ap (saturate_signed w64) f in
        ⊎_elim
        (λ small. let same : a +ℤ step ≡ next = omega (arith, ints, f, cut, small.0) in ap (λ k. numbers k end step) same)
        (λ big. numbers-end (a +ℤ step) end step (omega (arith, ints, f, top, big.0)) ∙ sym (numbers-end next end step (omega (arith, ints, cut, top, big.0))))
        (leb_tells n 9223372036854775807)
    rest (negsuc n) f =
        let cut : next ≡ negsuc (min n 9223372036854775807) = e ∙ ap (saturate_signed w64) f in
        let same : a +ℤ step ≡ next = omega (arith, ints, f, cut, low, s) in
        ap (λ k. numbers k end step) same

-- a number that is taken is progress
pub goes_on : (can : List ℤ → Type 0) (s t : List ℤ) (x : ℤ) → can t → s ≡ x ∷ t → MakesProgress can (item_count (λ rest. rest)) s (Some x) t
goes_on can s t x may e =
    let shorter = ap length e in
    record { on = λ finite. (may, finite, omega arith); keeps = may; rests = λ finite. tt }
