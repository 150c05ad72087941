-- The law is a lemma.
use Rattle.improve_cli.proofs.AnswerLaws.{fixed_answers_are_one}
use Rattle.improve_cli.proofs.laws.fixed_answers.Goals as goal

pub returns : goal.returns
returns c = fixed_answers_are_one
