-- What was found for the game is what is answered.
use Rattle.std.proofs.Common.{subst, sym}
use Rattle.command_answers.proofs.FoundPlans.{of_answer}
use Rattle.improve_answers.specs.Improved.{IsImproved}
use Rattle.improve_answers.proofs.Improvements.{found_is_improved}
use Rattle.improve_answers.proofs.improve.improved_answer.Goals as goal

pub returns : goal.returns
returns c =
    of_answer c.found_answer.result _ _ _ _ (λ answer status text table source kernel accepted.
    subst (λ t. IsImproved c.args.asked source answer.status answer.text.items t) (sym table.1)
    (found_is_improved c.args.asked c.args.game.now source kernel c.in_ok-found.found answer.status answer.text.items table.0 c.requires.game c.slots-slots.ensures.valid
    c.found_answer.ensures.plan c.in_ok-found.ensures accepted status text table.2))
    c.found_answer.ensures.status c.found_answer.ensures.text c.found_answer.ensures.table
