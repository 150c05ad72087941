-- The weight so far is that of the parts before, up to the greatest number.
use Rattle.std.proofs.Common.{◌≡◌, ◌+◌, ◌<◌, min, map, sum, drop}
use Rattle.kernel_ast.specs.Weights as spec
use Rattle.kernel_ast.proofs.weigh.+expr.Given as goal

abbrev pub invariant-arguments_weight-loop-arg : goal.invariant-arguments_weight-loop-arg
invariant-arguments_weight-loop-arg l = (l.weight < 4294967296) × (min (l.weight + sum (map spec.expr_weight (drop l.arg-index l.args))) 4294967295 ≡ min (sum (map spec.expr_weight l.args)) 4294967295)

abbrev pub invariant-links_weight-loop-link : goal.invariant-links_weight-loop-link
invariant-links_weight-loop-link l = (l.weight < 4294967296) × (min (l.weight + sum (map spec.link_weight (drop l.link-index l.rest))) 4294967295 ≡ min (sum (map spec.link_weight l.rest)) 4294967295)
