-- The laws are lemmas.
use Rattle.pebble_cli.proofs.AnswerLaws.{usage_only, usage_always}
use Rattle.pebble_cli.proofs.laws.answers.usage_answers.Goals as goal

pub returns-clause-only : goal.returns-clause-only
returns-clause-only c = usage_only

pub returns-clause-always : goal.returns-clause-always
returns-clause-always c = usage_always
