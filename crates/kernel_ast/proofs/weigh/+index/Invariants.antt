-- The weight so far is that of the parts before, up to the greatest number.
use Rattle.std.proofs.Common.{◌≡◌, ◌+◌, ◌<◌, min, map, sum, drop}
use Rattle.kernel_ast.specs.Weights as spec
use Rattle.kernel_ast.proofs.weigh.+index.Given as goal

abbrev pub invariant-index_links_weight-loop-link : goal.invariant-index_links_weight-loop-link
invariant-index_links_weight-loop-link l = (l.weight < 4294967296) × (min (l.weight + sum (map spec.index_link_weight (drop l.link-index l.rest))) 4294967295 ≡ min (sum (map spec.index_link_weight l.rest)) 4294967295)
