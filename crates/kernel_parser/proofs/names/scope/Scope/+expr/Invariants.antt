-- The parts so far, and the faults of those that are left.
use Rattle.std.proofs.Common.{◌≡◌, ◌++◌, map, drop}
use Rattle.kernel_ast.specs.Walk.{joined}
use Rattle.kernel_parser.specs.Names as spec
use Rattle.kernel_parser.specs.Resolved as tree
use Rattle.kernel_parser.specs.Scopes.{known}
use Rattle.kernel_parser.proofs.names.scope.Scope.+expr.Given as goal

abbrev pub invariant-links-loop-link : goal.invariant-links-loop-link
invariant-links-loop-link l =
    (l.links ++ map (tree.link_of (known l.self)) (drop l.link-index l.raw) ≡ map (tree.link_of (known l.self)) l.raw)
    × (joined (map (spec.link_faults (known l.self)) (drop l.link-index l.raw)) ≡ joined (map (spec.link_faults (known l.self)) l.raw))

abbrev pub invariant-arguments-loop-arg : goal.invariant-arguments-loop-arg
invariant-arguments-loop-arg l =
    (l.args ++ map (tree.expr_of (known l.self)) (drop l.arg-index l.raw) ≡ map (tree.expr_of (known l.self)) l.raw)
    × (joined (map (spec.expr_faults (known l.self)) (drop l.arg-index l.raw)) ≡ joined (map (spec.expr_faults (known l.self)) l.raw))
