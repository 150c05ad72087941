-- The inputs of the declarations so far, with those of the declarations that are left.
use Rattle.std.proofs.Common.{◌≡◌, drop}
use Rattle.kernel_ast.specs.declared.tree.DeclKind.TheVariants as kinds
use Rattle.kernel_ast.specs.Machine as machine
use Rattle.kernel_walk.specs.ElementLoops.{each_from}
use Rattle.source_machine.specs.Numbers as spec
use Rattle.source_machine.specs.States.{entered}
use Rattle.source_machine.proofs.inputs.Inputs.enter_all.Given as goal

abbrev pub invariant-each_declaration : goal.invariant-each_declaration
invariant-each_declaration l =
    each_from (machine.enter (spec.input l.values)) kinds.Input l.decl (drop l.decl l.kernel.decls) (entered l.self)
    ≡ each_from (machine.enter (spec.input l.values)) kinds.Input 0 l.kernel.decls (entered l.fn.self)
