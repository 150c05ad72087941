-- The game says that the slots are too few, and how many are needed.
use Rattle.desk_io.specs.Known.{file_items}
use Rattle.command_answers.proofs.EarlyEnds.{is_this_error, no_refusal}
use Rattle.command_answers.proofs.FirstPlans.{is_too_small}
use Rattle.command_answers.proofs.too_small.played_game.Goals as goal

pub returns-clause-refused : goal.returns-clause-refused
returns-clause-refused c = λ text kernel accepted.
    let answer = c.in_ok-too_small_answer-in-Err.field-0 in
    let is = c.in_ok-too_small_answer-in-Err.ensures in
    is_too_small c.args.slots c.in-Err.field-0.needs text kernel c.args.graph answer.status answer.text.items (file_items answer.table)
    c.requires.some accepted c.in-Err.ensures.small c.in-Err.ensures.needs is.status is.text is.none

pub returns-in_err-too_small_answer-in-Err-clause-refused : goal.returns-in_err-too_small_answer-in-Err-clause-refused
returns-in_err-too_small_answer-in-Err-clause-refused c = λ text kernel accepted.
    no_refusal c.from_residual.result _ (is_this_error _ _ c.from_residual.ensures.1)
