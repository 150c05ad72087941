-- The laws are lemmas.
use Rattle.improve_cli.proofs.AnswerLaws.{usage_only, usage_always}
use Rattle.improve_cli.proofs.laws.usage_answers.Goals as goal

pub returns-clause-only : goal.returns-clause-only
returns-clause-only c = usage_only

pub returns-clause-always : goal.returns-clause-always
returns-clause-always c = usage_always
