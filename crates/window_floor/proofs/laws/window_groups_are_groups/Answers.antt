use Rattle.window_floor.proofs.GroupLaws.{groups_are_groups}
use Rattle.window_floor.proofs.laws.window_groups_are_groups.Goals as goal

pub returns : goal.returns
returns c = groups_are_groups
