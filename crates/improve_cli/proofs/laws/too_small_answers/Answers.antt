-- The laws are lemmas.
use Rattle.improve_cli.proofs.AnswerLaws.{too_small_only, too_small_always}
use Rattle.improve_cli.proofs.laws.too_small_answers.Goals as goal

pub returns-clause-only : goal.returns-clause-only
returns-clause-only c = too_small_only

pub returns-clause-always : goal.returns-clause-always
returns-clause-always c = too_small_always
