-- The law is a lemma.
use Rattle.pebble_cli.proofs.AnswerLaws.{some_answer}
use Rattle.pebble_cli.proofs.laws.answers.some_answer.Goals as goal

pub returns : goal.returns
returns c = some_answer
