use Rattle.window_floor.proofs.ConeLaws.{window_floor_holds}
use Rattle.window_floor.proofs.laws.window_floor_holds.Goals as goal

pub returns : goal.returns
returns c = window_floor_holds
