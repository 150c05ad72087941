-- The laws are lemmas.
use Rattle.pebble_cli.proofs.AnswerLaws.{code_only, code_always}
use Rattle.pebble_cli.proofs.laws.answers.code_answers.Goals as goal

pub returns-clause-only : goal.returns-clause-only
returns-clause-only c = code_only

pub returns-clause-always : goal.returns-clause-always
returns-clause-always c = code_always
