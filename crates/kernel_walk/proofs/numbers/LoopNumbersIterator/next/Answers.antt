-- The next number is taken, or the end is reached.
use Rattle.std.proofs.Common.{rules, arith, ◌≡◌, ◌∷◌, ◌+ℤ◌, ◌<ℤ◌, ◌≤ℤ◌, SFits, to_z, of_z, w64, sym, ◌∙◌}
use Rattle.std.proofs.lemmas.Int.{ints}
use Rattle.std.specs.Int.{saturate_signed}
use Rattle.kernel_ast.specs.Steps.{numbers}
use Rattle.kernel_ast.proofs.Numbers.{numbers-end}
use Rattle.kernel_walk.proofs.NumbersTaken.{numbers_taken, goes_on}
use Rattle.kernel_walk.proofs.numbers.LoopNumbersIterator.next.Goals as goal

pub returns-then-self-clause-steps : goal.returns-then-self-clause-steps
returns-then-self-clause-steps c =
    let reached : c.self.inside.end ≤ℤ c.self.inside.next = grind (arith, ints, c.if-self.true) in
    let none = sym c.self.view_is ∙ numbers-end c.self.inside.next c.self.inside.end c.self.inside.step reached in
    (none, none)

pub returns-clause-steps : goal.returns-clause-steps
returns-clause-steps c =
    let below : c.self.inside.next <ℤ c.self.inside.end = grind (arith, ints, c.if-self.false) in
    let end : SFits w64 c.self.inside.end = search rules in
    let next : SFits w64 c.self.inside.next = search rules in
    let here : to_z w64 (of_z w64 c.self.inside.next) ≡ c.self.inside.next = search rules in
    let step : to_z w64 (of_z w64 c.self.inside.step) ≡ c.self.inside.step = search rules in
    let sum : c.saturating_add-self-inside.result ≡ saturate_signed w64 (c.self.inside.next +ℤ c.self.inside.step) = c.saturating_add-self-inside.ensures ∙ (λ i. saturate_signed w64 (here i +ℤ step i)) in
    let there : to_z w64 (of_z w64 c.saturating_add-self-inside.result) ≡ c.saturating_add-self-inside.result = search rules in
    sym c.self.view_is
    ∙ numbers_taken c.self.inside.next c.self.inside.end c.self.inside.step c.saturating_add-self-inside.result below c.self.invariant end next sum
    ∙ (λ i. sym here i ∷ numbers (sym there i) c.self.inside.end c.self.inside.step)

pub returns-clause-goes : goal.returns-clause-goes
returns-clause-goes c = goes_on _ _ _ _ tt (returns-clause-steps c)
