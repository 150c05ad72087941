-- The text is the five lines of what was found.
use Rattle.std.proofs.Common.{ap, ◌∙◌}
use Rattle.plan_report.specs.TrialText.{trial_text}
use Rattle.command_answers.proofs.trial.found_answer.Goals as goal

pub returns-clause-text : goal.returns-clause-text
returns-clause-text c = c.in_ok-text.ensures ∙ ap (trial_text c.args.asked.statements) c.facts_of_found-facts.ensures.value
