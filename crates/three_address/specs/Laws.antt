-- Laws of the graph of a well-formed kernel, also of one with arrays and loops.
use Rattle.std.specs.Prelude.{◌≡◌, ◌⊎◌, ℕ, ℤ, List, length, map, Ok, Err, ⊤, FitsSigned}
use Rattle.std.specs.Int.{w64}
use Rattle.std.specs.List.{All}
use Rattle.comp_graph.specs.declared.node.Node.{Node}
use Rattle.comp_graph.specs.declared.node.Operand.{Operand}
use Rattle.comp_graph.specs.declared.node.Operand.TheVariants.{Vertex, Const}
use Rattle.comp_graph.specs.Graphs.{GraphParts, IsGraph}
use Rattle.scratch_machine.specs.Values.{AreValues, output_values}
use Rattle.kernel_ast.specs.declared.tree.DeclKind.TheVariants as kinds
use Rattle.kernel_ast.specs.declared.tree.Stmt.{Stmt}
use Rattle.kernel_ast.specs.declared.element.Fault.{Fault}
use Rattle.kernel_ast.specs.declared.rule.RunRule.TheVariants.{OutOfRange, Unset, OutputUnset, TooManyVertices, TooManyTurns, BigIndex, BadStep}
use Rattle.kernel_ast.specs.KernelParts.{KernelParts, Declared}
use Rattle.kernel_ast.specs.RunRules.{code_of}
use Rattle.kernel_ast.specs.Labels.{labels_of}
use Rattle.kernel_ast.specs.Walk.{walk_all}
use Rattle.kernel_ast.specs.Meaning.{fault_of, shape_fault, outputs}
use Rattle.kernel_ast.specs.KernelGraph.{graph_of}
use Rattle.kernel_ast.specs.WellFormed.{IsWellFormed}

-- the graph of a kernel is a graph: at most 256 nodes, inputs first, and each operand before its node
abbrev pub GraphsAreGraphs : Type 0
GraphsAreGraphs = (kernel : KernelParts) (graph : GraphParts) → IsWellFormed kernel → graph_of kernel ≡ Ok graph → IsGraph graph

-- the graph has the kernel's title, and the labels of its input elements and of its output elements
pub record IsLabelled (kernel : KernelParts) (graph : GraphParts) : Type 0 where
  pub title : graph.title ≡ kernel.title
  pub inputs : graph.names ≡ labels_of kinds.Input kernel.decls
  pub outputs : map (λ o. o.label) graph.outputs ≡ labels_of kinds.Output kernel.decls

-- the graph of a kernel keeps its title and its labels
abbrev pub GraphsKeepTheLabels : Type 0
GraphsKeepTheLabels = (kernel : KernelParts) (graph : GraphParts) → IsWellFormed kernel → graph_of kernel ≡ Ok graph → IsLabelled kernel graph

-- on as many values as there are inputs, the kernel's outputs are the values of its graph's outputs
abbrev pub GraphsHaveTheMeaning : Type 0
GraphsHaveTheMeaning = (kernel : KernelParts) (graph : GraphParts) (values : List ℤ) (value : ℕ → ℤ) → IsWellFormed kernel → graph_of kernel ≡ Ok graph
    → length values ≡ length graph.names → AreValues graph values value → outputs kernel values ≡ output_values graph value

-- where a kernel's run has a fault, the graph has it, and else there is a graph
abbrev pub GraphsHaveTheFaults : Type 0
GraphsHaveTheFaults = (kernel : KernelParts) → fault_of (graph_of kernel) ≡ shape_fault kernel

-- a fault of the walk is the first one
abbrev pub WalksComeFirst : Type 0
WalksComeFirst = (kernel : KernelParts) (fault : Fault) → walk_all kernel.decls kernel.body ≡ Err fault → graph_of kernel ≡ Err fault

-- the code is 7, 12, 14 or 17
abbrev pub IsWalkFault : Fault → Type 0
IsWalkFault f = (f.code ≡ code_of OutOfRange) ⊎ (f.code ≡ code_of TooManyTurns) ⊎ (f.code ≡ code_of BigIndex) ⊎ (f.code ≡ code_of BadStep)

-- a fault of a walk has one of these codes
abbrev pub WalkFaultsHaveTheirCodes : Type 0
WalkFaultsHaveTheirCodes = (decls : List Declared) (body : List Stmt) (fault : Fault) → walk_all decls body ≡ Err fault → IsWalkFault fault

-- the code is 8, 10 or 11
abbrev pub IsValueFault : Fault → Type 0
IsValueFault f = (f.code ≡ code_of Unset) ⊎ (f.code ≡ code_of OutputUnset) ⊎ (f.code ≡ code_of TooManyVertices)

-- where the walk of a well-formed kernel has no fault, a fault of its graph has one of these codes
abbrev pub ValueFaultsHaveTheirCodes : Type 0
ValueFaultsHaveTheirCodes = (kernel : KernelParts) (turns : ℕ) (fault : Fault) → IsWellFormed kernel → walk_all kernel.decls kernel.body ≡ Ok turns
    → graph_of kernel ≡ Err fault → IsValueFault fault

-- a constant has 64 bits
abbrev pub HasSmallConstant : Operand → Type 0
HasSmallConstant (Vertex v) = ⊤
HasSmallConstant (Const n) = FitsSigned w64 n

-- each constant of a node has 64 bits
abbrev pub HasSmallConstants : Node → Type 0
HasSmallConstants n = All HasSmallConstant n.args

-- the constants of the graph of a kernel have 64 bits
abbrev pub ConstantsAreSmall : Type 0
ConstantsAreSmall = (kernel : KernelParts) (graph : GraphParts) → IsWellFormed kernel → graph_of kernel ≡ Ok graph → All HasSmallConstants graph.nodes
