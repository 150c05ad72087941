-- The law is a lemma.
use Rattle.pebble_cli.proofs.CheckStatuses.{plans_are_accepted}
use Rattle.pebble_cli.proofs.laws.check.plans_are_accepted.Goals as goal

pub returns : goal.returns
returns c = plans_are_accepted
