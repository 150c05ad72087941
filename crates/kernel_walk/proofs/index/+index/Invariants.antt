-- The value of a chain so far, with the links that are left.
use Rattle.std.proofs.Common.{◌≡◌, map, drop}
use Rattle.kernel_ast.specs.Places as spec
use Rattle.kernel_walk.proofs.index.+index.Given as goal

abbrev pub invariant-chain_value-loop-link : goal.invariant-chain_value-loop-link
invariant-chain_value-loop-link l = spec.index_chain l.total (map (spec.index_link l.indices) (drop l.link-index l.rest)) ≡ spec.index_chain l.fn.first (map (spec.index_link l.indices) l.rest)
