use Rattle.std.proofs.Common.{◌-◌}
use Rattle.window_images.specs.Permutations.{renamings}
use Rattle.window_images.proofs.Rounds.{IsReached}
use Rattle.window_images.proofs.least.least_image.Given as goal

abbrev pub invariant-loop-round : goal.invariant-loop-round
invariant-loop-round l = IsReached (renamings l.permutations) l.position (256 - l._round) l.reached
