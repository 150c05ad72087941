-- By definition.
use Rattle.std.proofs.Common.{refl}
use Rattle.position_arena.specs.Index.{mixed}
use Rattle.position_arena.proofs.index.mix.Goals as goal

pub returns : goal.returns
unfolding mixed
returns c = refl
