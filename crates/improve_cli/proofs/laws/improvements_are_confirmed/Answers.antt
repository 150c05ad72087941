-- The law is a lemma.
use Rattle.improve_cli.proofs.SomeAnswers.{improvements_are_confirmed}
use Rattle.improve_cli.proofs.laws.improvements_are_confirmed.Goals as goal

pub returns : goal.returns
returns c = improvements_are_confirmed
