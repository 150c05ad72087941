use Rattle.window_images.proofs.Rounds.{IsBest}
use Rattle.window_images.proofs.least.least_of.Given as goal

abbrev pub invariant-loop-permutation : goal.invariant-loop-permutation
invariant-loop-permutation l = IsBest l.permutations l.position l.permutation-index l.best
