use Rattle.std.proofs.Common.{◌≡◌, ◌∷◌, sym, ap, ◌∙◌}
use Rattle.std.specs.FinSet.{empty}
use Rattle.normal_steps.specs.declared.step.Step.TheVariants.{Work, Drop, Spill}
use Rattle.normal_steps.specs.LegalSteps.{listed}
use Rattle.normal_steps.proofs.Listed.{listed-work, listed-drop, listed-spill, listed-empty, goes_on}
use Rattle.normal_steps.proofs.legal_steps.StepsIterator.next.Goals as goal

pub returns-in-Some-clause-steps : goal.returns-in-Some-clause-steps
returns-in-Some-clause-steps c =
    let least = c.in-Some.ensures in
    sym c.self.view_is
    ∙ listed-work 256 c.self.inside.works c.self.inside.drops c.self.inside.spills c.in-Some.v least.value (least.bounded.below c.in-Some.v least.value.member)
    ∙ ap (λ s. Work c.in-Some.v ∷ listed 256 s c.self.inside.drops c.self.inside.spills) (sym c.without-self-inside.ensures)

pub returns-in-Some-clause-goes : goal.returns-in-Some-clause-goes
returns-in-Some-clause-goes c = goes_on _ _ _ _ tt (returns-in-Some-clause-steps c)

pub returns-in-Some-least-clause-steps : goal.returns-in-Some-least-clause-steps
returns-in-Some-least-clause-steps c =
    let least = c.in-Some-least.ensures in
    let no_works : c.self.inside.works ≡ empty = c.in_default.ensures.value in
    sym c.self.view_is
    ∙ ap (λ s. listed 256 s c.self.inside.drops c.self.inside.spills) no_works
    ∙ listed-drop 256 c.self.inside.drops c.self.inside.spills c.in-Some-least.u least.value (least.bounded.below c.in-Some-least.u least.value.member)
    ∙ (λ i. Drop c.in-Some-least.u ∷ listed 256 (sym no_works i) (sym c.without-self-inside-in-Some-least.ensures i) c.self.inside.spills)

pub returns-in-Some-least-clause-goes : goal.returns-in-Some-least-clause-goes
returns-in-Some-least-clause-goes c = goes_on _ _ _ _ tt (returns-in-Some-least-clause-steps c)

pub returns-in-Some-least-2-clause-steps : goal.returns-in-Some-least-2-clause-steps
returns-in-Some-least-2-clause-steps c =
    let least = c.in-Some-least-2.ensures in
    let no_works : c.self.inside.works ≡ empty = c.in_default.ensures.value in
    let no_drops : c.self.inside.drops ≡ empty = c.in_default-least.ensures.value in
    sym c.self.view_is
    ∙ (λ i. listed 256 (no_works i) (no_drops i) c.self.inside.spills)
    ∙ listed-spill 256 c.self.inside.spills c.in-Some-least-2.u least.value (least.bounded.below c.in-Some-least-2.u least.value.member)
    ∙ (λ i. Spill c.in-Some-least-2.u ∷ listed 256 (sym no_works i) (sym no_drops i) (sym c.without-self-inside-in-Some-least-2.ensures i))

pub returns-in-Some-least-2-clause-goes : goal.returns-in-Some-least-2-clause-goes
returns-in-Some-least-2-clause-goes c = goes_on _ _ _ _ tt (returns-in-Some-least-2-clause-steps c)

pub returns-clause-steps : goal.returns-clause-steps
returns-clause-steps c =
    let no_works : c.self.inside.works ≡ empty = c.in_default.ensures.value in
    let no_drops : c.self.inside.drops ≡ empty = c.in_default-least.ensures.value in
    let no_spills : c.self.inside.spills ≡ empty = c.in_default-least-2.ensures.value in
    let none = sym c.self.view_is ∙ (λ i. listed 256 (no_works i) (no_drops i) (no_spills i)) ∙ listed-empty 256 in
    (none, none)
