use Rattle.window_images.proofs.Inverses.{AreMet}
use Rattle.window_images.proofs.permutation.inverse.Given as goal

abbrev pub invariant-loop-v : goal.invariant-loop-v
invariant-loop-v l = AreMet l.there l.v l.met l.back
