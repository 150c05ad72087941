-- The laws are lemmas.
use Rattle.pebble_cli.proofs.AnswerLaws.{own_only, own_always}
use Rattle.pebble_cli.proofs.laws.answers.own_answers.Goals as goal

pub returns-clause-only : goal.returns-clause-only
returns-clause-only c = own_only

pub returns-clause-always : goal.returns-clause-always
returns-clause-always c = own_always
