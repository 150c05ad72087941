-- The input elements of a declaration so far, with those that are left.
use Rattle.std.proofs.Common.{◌≡◌}
use Rattle.kernel_ast.specs.Steps.{each}
use Rattle.kernel_ast.specs.Machine as machine
use Rattle.kernel_walk.specs.ElementLoops.{cells_between}
use Rattle.source_machine.specs.Numbers as spec
use Rattle.source_machine.specs.States.{entered}
use Rattle.source_machine.proofs.inputs.Inputs.enter_cells.Given as goal

abbrev pub invariant-each_cell : goal.invariant-each_cell
invariant-each_cell l =
    each (machine.enter (spec.input l.values)) (cells_between l.at l.decl l.offset l.size) (entered l.self)
    ≡ each (machine.enter (spec.input l.values)) (cells_between l.at l.decl 0 l.size) (entered l.fn.self)
