-- The laws are lemmas.
use Rattle.pebble_cli.proofs.CoverStatuses.{covers_are_accepted}
use Rattle.pebble_cli.proofs.laws.cover.covers_are_accepted.Goals as goal

pub returns : goal.returns
returns c = covers_are_accepted
