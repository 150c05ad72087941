-- The declarations so far, and the faults of those that are left.
use Rattle.std.proofs.Common.{◌≡◌, ◌++◌, [], map, drop}
use Rattle.kernel_parser.specs.Names as spec
use Rattle.kernel_parser.proofs.names.declare.declare_all.Given as goal

abbrev pub invariant-loop-decl : goal.invariant-loop-decl
invariant-loop-decl l =
    (l.decls.entries ++ map (spec.declared l.text) (drop l.decl-index l.raw) ≡ map (spec.declared l.text) l.raw)
    × (spec.decls_faults l.text l.decls.entries (drop l.decl-index l.raw) ≡ spec.decls_faults l.text [] l.raw)
