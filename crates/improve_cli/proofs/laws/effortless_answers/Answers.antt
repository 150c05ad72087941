-- The law is a lemma.
use Rattle.improve_answers.proofs.Effortless.{planned_without_effort}
use Rattle.improve_cli.proofs.laws.effortless_answers.Goals as goal

pub returns : goal.returns
returns c = planned_without_effort
