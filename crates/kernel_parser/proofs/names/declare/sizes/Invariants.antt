-- The sizes so far, and the faults of those that are left.
use Rattle.std.proofs.Common.{◌≡◌, ◌++◌, map, drop}
use Rattle.kernel_parser.specs.Names as spec
use Rattle.kernel_parser.proofs.names.declare.sizes.Given as goal

abbrev pub invariant-loop-size : goal.invariant-loop-size
invariant-loop-size l =
    (l.sizes ++ map spec.size_of (drop l.size-index l.raw) ≡ map spec.size_of l.raw)
    × (spec.sizes_faults (drop l.size-index l.raw) ≡ spec.sizes_faults l.raw)
