-- The outputs of the declarations so far, with those of the declarations that are left.
use Rattle.std.proofs.Common.{◌≡◌, drop}
use Rattle.kernel_ast.specs.declared.tree.DeclKind.TheVariants as kinds
use Rattle.kernel_ast.specs.Machine as machine
use Rattle.kernel_walk.specs.ElementLoops.{each_from}
use Rattle.kernel_walk.specs.SetElements.{elements}
use Rattle.source_machine.specs.Numbers as spec
use Rattle.source_machine.specs.States.{left}
use Rattle.source_machine.proofs.outputs.Outputs.leave_all.Given as goal

abbrev pub invariant-each_declaration : goal.invariant-each_declaration
invariant-each_declaration l =
    each_from (machine.leave spec.numbers (elements l.written)) kinds.Output l.decl (drop l.decl l.kernel.decls) (left l.self)
    ≡ each_from (machine.leave spec.numbers (elements l.written)) kinds.Output 0 l.kernel.decls (left l.fn.self)
