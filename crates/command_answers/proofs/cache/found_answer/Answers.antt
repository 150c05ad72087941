-- The text is the five lines of the run and of what was found.
use Rattle.std.proofs.Common.{ap, ◌∙◌}
use Rattle.plan_report.specs.CacheText.{cache_text}
use Rattle.command_answers.proofs.cache.found_answer.Goals as goal

pub returns-clause-text : goal.returns-clause-text
returns-clause-text c = c.in_ok-text.ensures ∙ ap cache_text c.facts_beside-facts.ensures.value
