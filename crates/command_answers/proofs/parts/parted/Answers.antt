-- What the searches of the parts find is what is answered.
use Rattle.std.proofs.Common.{subst, sym}
use Rattle.part_bounds.specs.Bounds.{ArePartBounds}
use Rattle.command_answers.specs.PartAnswers.{IsParted}
use Rattle.command_answers.proofs.FoundParts.{found_is_parted}
use Rattle.command_answers.proofs.FoundPlans.{of_answer}
use Rattle.command_answers.proofs.parts.parted.Goals as goal

pub returns : goal.returns
returns c =
    let found = c.deref.result.now in
    let are = subst (ArePartBounds c.args.game.now c.args.asked.parts c.args.asked.budget) (sym c.deref.ensures.value) c.in_ok-found.ensures in
    of_answer c.found_answer.result _ _ _ _ (λ answer status text table source kernel accepted.
    subst (λ t. IsParted c.args.asked source answer.status answer.text.items t) (sym table.1)
    (found_is_parted c.args.asked c.args.game.now found source kernel answer.status answer.text.items table.0 c.requires.game c.slots-slots.ensures.valid are accepted status text table.2))
    c.found_answer.ensures.status c.found_answer.ensures.text c.found_answer.ensures.table
