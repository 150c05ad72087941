use Rattle.std.proofs.Common.{◌≡◌, ℕ, ◌≤◌, ◌<◌, false}
use Rattle.std.specs.FinSet.{contains}
use Rattle.window_cert.proofs.pieces.is_below.Given as goal

abbrev pub invariant-rest : goal.invariant-rest
invariant-rest l = (u : ℕ) → l.vertices ≤ u → u < l.v → contains l.set u ≡ false
