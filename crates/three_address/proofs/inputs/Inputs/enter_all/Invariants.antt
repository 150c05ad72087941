-- The elements that are left lead from here to what all lead to from the start, and each turn takes one.
use Rattle.std.proofs.Common.{◌≡◌, length}
use Rattle.kernel_ast.specs.Steps.{each}
use Rattle.kernel_ast.specs.declared.tree.DeclKind.TheVariants as kinds
use Rattle.three_address.specs.LabelledElements.{elements_of}
use Rattle.three_address.specs.ElementsLeft.{rest}
use Rattle.three_address.specs.Lowered as spec
use Rattle.three_address.specs.Views.{entering}
use Rattle.three_address.proofs.inputs.Inputs.enter_all.Given as goal

abbrev pub invariant-inputs : goal.invariant-inputs
invariant-inputs l = each spec.entered (rest l.elements) (entering l.self) ≡ each spec.entered (elements_of kinds.Input 0 l.decls.entries) (entering l.fn.self)

abbrev pub decreases-inputs : goal.decreases-inputs
decreases-inputs l = length (rest l.elements)
