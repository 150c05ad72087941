use Rattle.pebble_rules.proofs.FirstBound.{first_bound_holds}
use Rattle.pebble_rules.proofs.laws.first_bound_holds.Goals as goal

pub returns : goal.returns
returns c = first_bound_holds
