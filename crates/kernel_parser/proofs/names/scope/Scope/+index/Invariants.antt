-- The operators so far, and the faults of those that are left.
use Rattle.std.proofs.Common.{◌≡◌, ◌++◌, map, drop}
use Rattle.kernel_ast.specs.Walk.{joined}
use Rattle.kernel_parser.specs.Names as spec
use Rattle.kernel_parser.specs.Resolved as tree
use Rattle.kernel_parser.specs.Scopes.{known}
use Rattle.kernel_parser.proofs.names.scope.Scope.+index.Given as goal

abbrev pub invariant-index_links-loop-link : goal.invariant-index_links-loop-link
invariant-index_links-loop-link l =
    (l.links ++ map (tree.index_link (known l.self)) (drop l.link-index l.raw) ≡ map (tree.index_link (known l.self)) l.raw)
    × (joined (map (spec.index_link_faults (known l.self)) (drop l.link-index l.raw)) ≡ joined (map (spec.index_link_faults (known l.self)) l.raw))
