-- The elements that are left lead from here to what all lead to from the start, and each turn takes one.
use Rattle.std.proofs.Common.{◌≡◌, length}
use Rattle.kernel_ast.specs.Steps.{each}
use Rattle.kernel_ast.specs.declared.tree.DeclKind.TheVariants as kinds
use Rattle.kernel_walk.specs.SetElements.{elements}
use Rattle.three_address.specs.LabelledElements.{elements_of}
use Rattle.three_address.specs.ElementsLeft.{rest}
use Rattle.three_address.specs.Lowered as spec
use Rattle.three_address.specs.Views.{leaving}
use Rattle.three_address.proofs.outputs.Outputs.leave_all.Given as goal

abbrev pub invariant-outputs : goal.invariant-outputs
invariant-outputs l =
    each (spec.left (elements l.written)) (rest l.elements) (leaving l.self) ≡ each (spec.left (elements l.written)) (elements_of kinds.Output 0 l.decls.entries) (leaving l.fn.self)

abbrev pub decreases-outputs : goal.decreases-outputs
decreases-outputs l = length (rest l.elements)
