-- The law is a lemma.
use Rattle.improve_cli.proofs.SomeAnswers.{some_answer}
use Rattle.improve_cli.proofs.laws.some_answer.Goals as goal

pub returns : goal.returns
returns c = some_answer
