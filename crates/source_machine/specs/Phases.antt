-- The evaluation over plain numbers, phase by phase and declaration by declaration.
use Rattle.std.specs.Prelude.{ℕ, ℤ, List, [], Option, Some, None, Result, Err}
use Rattle.kernel_ast.specs.declared.tree.DeclKind.TheVariants as kinds
use Rattle.kernel_ast.specs.declared.element.Fault.{Fault}
use Rattle.kernel_ast.specs.KernelParts.{KernelParts}
use Rattle.kernel_ast.specs.Steps.{and_then}
use Rattle.kernel_ast.specs.Walk.{walk_all}
use Rattle.kernel_ast.specs.Machine.{State, enter, leave, no_elements, execute_all}
use Rattle.kernel_ast.specs.Meaning.{fault_of}
use Rattle.kernel_walk.specs.ElementLoops.{each_from}
use Rattle.source_machine.specs.declared.value.Value.{Value}
use Rattle.source_machine.specs.Numbers.{numbers, input}

-- go on where there is no fault
abbrev pub unless : {A : Type 0} → Option Fault → Result A Fault → Result A Fault
unless None outcome = outcome
unless (Some f) outcome = Err f

-- the input elements are set
unfoldable pub entering : KernelParts → List ℤ → Result (State Value ℕ) Fault
entering k values = each_from (enter (input values)) kinds.Input 0 k.decls (no_elements, 0)

-- the output elements are read
unfoldable pub leaving : KernelParts → State Value ℕ → Result (List Value × ℕ) Fault
leaving k s = each_from (leave numbers s.0) kinds.Output 0 k.decls ([], s.1)

-- the walk, the inputs, the statements and the outputs
abbrev pub phases : KernelParts → List ℤ → Result (List Value × ℕ) Fault
phases k values =
    unless (fault_of (walk_all k.decls k.body))
    (and_then (entering k values) (λ entered. and_then (execute_all numbers k.decls k.body entered) (leaving k)))
