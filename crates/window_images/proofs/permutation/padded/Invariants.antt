use Rattle.std.proofs.Common.{◌≡◌, ℕ, ◌<◌, length, slice_index, slice_index_or}
use Rattle.window_images.proofs.permutation.padded.Given as goal

abbrev pub invariant-loop-v : goal.invariant-loop-v
invariant-loop-v l = (length l.whole ≡ 256) × ((u : ℕ) → u < l.v → slice_index l.whole u ≡ slice_index_or l.list u u)
