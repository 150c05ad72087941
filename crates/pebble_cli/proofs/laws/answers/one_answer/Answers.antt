-- The law is a lemma.
use Rattle.pebble_cli.proofs.AnswerLaws.{one_answer}
use Rattle.pebble_cli.proofs.laws.answers.one_answer.Goals as goal

pub returns : goal.returns
returns c = one_answer
