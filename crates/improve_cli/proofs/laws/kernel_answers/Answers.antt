-- The laws are lemmas.
use Rattle.improve_cli.proofs.AnswerLaws.{kernel_only, kernel_always}
use Rattle.improve_cli.proofs.laws.kernel_answers.Goals as goal

pub returns-clause-only : goal.returns-clause-only
returns-clause-only c = kernel_only

pub returns-clause-always : goal.returns-clause-always
returns-clause-always c = kernel_always
