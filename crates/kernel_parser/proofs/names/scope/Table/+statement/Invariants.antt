-- The statements so far, and the faults of those that are left.
use Rattle.std.proofs.Common.{◌≡◌, ◌++◌, drop, true, length}
use Rattle.kernel_parser.specs.Names as spec
use Rattle.kernel_parser.specs.RawFits.{body_fits}
use Rattle.kernel_parser.specs.Resolved as tree
use Rattle.kernel_parser.specs.Scopes.{entries}
use Rattle.kernel_parser.proofs.names.scope.Table.+statement.Given as goal

abbrev pub invariant-body-loop-stmt : goal.invariant-body-loop-stmt
invariant-body-loop-stmt l =
    (l.loops.items ≡ l.fn.loops.items)
    × (body_fits (length l.fn.loops.items) (drop l.stmt-index l.raw) ≡ true)
    × (l.body ++ tree.body_of l.self.text.now (entries l.self) (drop l.stmt-index l.raw) l.fn.loops.items ≡ tree.body_of l.self.text.now (entries l.self) l.raw l.fn.loops.items)
    × (spec.body_faults l.self.text.now (entries l.self) (drop l.stmt-index l.raw) l.fn.loops.items ≡ spec.body_faults l.self.text.now (entries l.self) l.raw l.fn.loops.items)
