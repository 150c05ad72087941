-- By definition.
use Rattle.std.proofs.Common.{refl}
use Rattle.position_arena.specs.Index.{homed}
use Rattle.position_arena.proofs.index.home.Goals as goal

pub returns-clause-place : goal.returns-clause-place
unfolding homed
returns-clause-place c = refl
