-- The weight so far is that of the indices before, up to the greatest number.
use Rattle.std.proofs.Common.{◌≡◌, ◌+◌, ◌<◌, min, map, sum, drop}
use Rattle.kernel_ast.specs.Weights as spec
use Rattle.kernel_ast.proofs.weigh.place_weight.Given as goal

abbrev pub invariant-loop-index : goal.invariant-loop-index
invariant-loop-index l = (l.weight < 4294967296) × (min (l.weight + sum (map spec.index_weight (drop l.index-index l.index-items))) 4294967295 ≡ min (spec.place_weight l.place) 4294967295)
