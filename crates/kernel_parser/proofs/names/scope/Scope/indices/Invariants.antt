-- The indices so far, and the faults of those that are left.
use Rattle.std.proofs.Common.{◌≡◌, ◌++◌, map, drop}
use Rattle.kernel_parser.specs.Names as spec
use Rattle.kernel_parser.specs.Resolved as tree
use Rattle.kernel_parser.specs.Scopes.{known}
use Rattle.kernel_parser.proofs.names.scope.Scope.indices.Given as goal

abbrev pub invariant-loop-index : goal.invariant-loop-index
invariant-loop-index l =
    (l.indices ++ map (tree.index_of (known l.self)) (drop l.index-index l.raw) ≡ map (tree.index_of (known l.self)) l.raw)
    × (spec.indices_faults (known l.self) (drop l.index-index l.raw) ≡ spec.indices_faults (known l.self) l.raw)
