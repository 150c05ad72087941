-- The run of the cache, and what the search finds from the first plan, are what is answered.
use Rattle.std.proofs.Common.{◌≡◌, subst, sym}
use Rattle.command_answers.specs.CacheAnswers.{IsCached}
use Rattle.command_answers.specs.PlanAnswers.{first_plan_of}
use Rattle.command_answers.proofs.FirstPlans.{first_plan_is}
use Rattle.command_answers.proofs.FoundCaches.{found_is_cached}
use Rattle.command_answers.proofs.FoundPlans.{of_answer}
use Rattle.command_answers.proofs.cache.compared.Goals as goal

pub found_answer-requires-clause-table : goal.found_answer-requires-clause-table
found_answer-requires-clause-table c = c.in_ok-found.ensures.in_range

pub returns : goal.returns
returns c =
    let first : c.in_ok-first.first ≡ first_plan_of c.args.game.now =
    first_plan_is c.args.game.now c.in_ok-first.first c.in_ok-first.ensures.game c.in_ok-first.ensures.steps c.in_ok-first.ensures.total in
    of_answer c.found_answer.result _ _ _ _ (λ answer status text table source kernel accepted.
    subst (λ t. IsCached c.args.asked source answer.status answer.text.items t) (sym table.1)
    (found_is_cached c.args.asked c.args.game.now c.in_ok-ran.ran c.in_ok-first.first c.in_ok-found.found source kernel answer.status answer.text.items table.0 c.requires.game
    c.slots-slots.ensures.valid c.in_ok-ran.ensures.exact first c.in_ok-found.ensures c.found_answer.ensures.plan accepted status text table.2))
    c.found_answer.ensures.status c.found_answer.ensures.text c.found_answer.ensures.table
