-- The graph of a kernel from its executed assignments, step by step.
use Rattle.std.specs.Prelude.{◌++◌, ◌∷◌, ℕ, List, [], Result, Ok}
use Rattle.comp_graph.specs.declared.node.Operand.{Operand}
use Rattle.comp_graph.specs.declared.node.Node.{Node}
use Rattle.comp_graph.specs.declared.node.Output.{Output as OutputElement}
use Rattle.comp_graph.specs.Graphs.{GraphParts}
use Rattle.kernel_ast.specs.declared.tree.DeclKind.TheVariants.{Input, Output}
use Rattle.kernel_ast.specs.declared.element.Fault.{Fault}
use Rattle.kernel_ast.specs.KernelParts.{KernelParts}
use Rattle.kernel_ast.specs.Steps.{and_then, each}
use Rattle.kernel_ast.specs.Machine.{Elements, State, no_elements, enter, held, output_unset}
use Rattle.kernel_ast.specs.KernelGraph.{output_of}
use Rattle.loop_unroll.specs.declared.flat.Flat.{Flat}
use Rattle.loop_unroll.specs.Plays.{play_flat}
use Rattle.three_address.specs.declared.element.Element.{Element}
use Rattle.three_address.specs.LabelledElements.{elements_of}
use Rattle.three_address.specs.Lowering.{lowering, settle, input_node}

-- the elements that are set and the nodes, with the labels of the inputs so far
abbrev pub Entering : Type 0
Entering = State Operand (List Node) × List (List ℕ)

-- one input element is set, and its label joins those before it
unfoldable pub entered : Element → Entering → Result Entering Fault
entered e s = and_then (enter input_node (e.at, e.cell) s.0) (λ next. Ok (next, s.1 ++ e.label ∷ []))

-- the output elements so far, and the nodes
abbrev pub Leaving : Type 0
Leaving = List OutputElement × List Node

-- one output element, with its label, joins those before it
unfoldable pub left : Elements Operand → Element → Leaving → Result Leaving Fault
left elements e r =
    and_then (held (output_unset e.at) (elements e.cell)) (λ v. and_then (settle e.at v r.1) (λ w. Ok (r.0 ++ output_of (e.label, w.0) ∷ [], w.1)))

-- the inputs are set, the assignments executed, and the outputs given out
unfoldable pub lowered : KernelParts → List Flat → Result GraphParts Fault
lowered k flats =
    and_then (each entered (elements_of Input 0 k.decls) ((no_elements, []), [])) (λ start.
    and_then (each (play_flat lowering) flats start.0) (λ end.
    and_then (each (left end.0) (elements_of Output 0 k.decls) ([], end.1)) (λ r.
    Ok (record { title = k.title; nodes = r.1; names = start.1; outputs = r.0 }))))
