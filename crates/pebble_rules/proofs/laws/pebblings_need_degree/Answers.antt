use Rattle.pebble_rules.proofs.Possible.{possible_above_degree}
use Rattle.pebble_rules.proofs.laws.pebblings_need_degree.Goals as goal

pub returns : goal.returns
returns c = possible_above_degree
