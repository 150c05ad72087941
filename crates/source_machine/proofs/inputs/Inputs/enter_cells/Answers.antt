-- The fault of one element is that of all, one more is done, and in the end all are.
use Rattle.std.proofs.Common.{rules, arith, ◌≡◌, ◌<◌, ◌≤◌, ◌+◌, refl, sym, subst, Err}
use Rattle.kernel_ast.specs.Steps.{each}
use Rattle.kernel_ast.specs.Machine as machine
use Rattle.kernel_walk.specs.ElementLoops.{cells_between}
use Rattle.kernel_walk.specs.Outcomes.{Gives}
use Rattle.kernel_walk.proofs.ElementLoops.{cells_kept, cells_ended, cells_stopped}
use Rattle.kernel_walk.proofs.Outcomes.{stops}
use Rattle.source_machine.specs.Numbers as spec
use Rattle.source_machine.specs.States.{entered}
use Rattle.source_machine.proofs.inputs.Inputs.enter_cells.Goals as goal

pub returns-in_err-enter : goal.returns-in_err-enter
returns-in_err-enter c =
    let below : c.each_cell.offset < c.args.size = omega arith in
    let err : c.from_residual.result ≡ Err c.in_err-enter.field-0.0 = search rules in
    subst (λ r. Gives (each (machine.enter (spec.input c.args.values.now)) (cells_between c.args.at c.args.decl 0 c.args.size) (entered c.args.self.now)) (entered c.enter.new.self) r) (sym err)
    (stops _ _ (entered c.enter.new.self) c.in_err-enter.field-0.0
    (λ f is. cells_stopped (machine.enter (spec.input c.args.values.now)) c.args.at c.args.decl c.each_cell.offset c.args.size _ f _ below c.each_cell.invariant is) c.in_err-enter.ensures)

pub each_cell-preserved : goal.each_cell-preserved
each_cell-preserved c =
    let below : c.each_cell.offset < c.args.size = omega arith in
    cells_kept (machine.enter (spec.input c.args.values.now)) c.args.at c.args.decl c.each_cell.offset (c.each_cell.offset + 1) c.args.size _ _ _ below refl c.each_cell.invariant c.in_ok-enter.ensures

pub returns : goal.returns
returns c =
    let above : c.args.size ≤ c.each_cell.offset = omega arith in
    cells_ended (machine.enter (spec.input c.args.values.now)) c.args.at c.args.decl c.each_cell.offset c.args.size _ _ above c.each_cell.invariant
