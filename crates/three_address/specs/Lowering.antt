-- The evaluation of a kernel over operands: an element holds a vertex of the graph or a constant, and beside the elements grow the nodes of
-- the graph.
use Rattle.std.specs.Prelude.{◌++◌, ◌∷◌, ◌&&◌, ℕ, ℤ, pos, nat_lt, Bool, true, false, if◌then◌else◌, List, [], map, length, Ok, Err, slice_index_or}
use Rattle.comp_graph.specs.declared.operation.Op.{Op}
use Rattle.comp_graph.specs.declared.operation.Op.TheVariants as op
use Rattle.comp_graph.specs.declared.node.Operand.{Operand}
use Rattle.comp_graph.specs.declared.node.Operand.TheVariants.{Vertex, Const}
use Rattle.comp_graph.specs.declared.node.Node.{Node}
use Rattle.comp_graph.specs.Operations.{value_at}
use Rattle.kernel_ast.specs.RunRules.{most_vertices}
use Rattle.kernel_ast.specs.Machine.{Machine, Run}
use Rattle.kernel_ast.specs.Meaning.{too_many_vertices}

-- the operand at a place, and the constant 0 where there is none
abbrev pub operand_at : List Operand → ℕ → Operand
operand_at args k = slice_index_or args k (Const (pos 0))

-- the node of an operation on these operands
abbrev pub node : Op → List Operand → Node
node op args = record { op = op; args = operand_at args 0 ∷ operand_at args 1 ∷ operand_at args 2 ∷ [] }

-- a node is appended, and is a new vertex; there are at most 256
abbrev pub append_node : ℕ → Op → List Operand → Run Operand (List Node)
append_node at op args nodes = if nat_lt (length nodes) most_vertices then Ok (Vertex (length nodes), nodes ++ node op args ∷ []) else Err (too_many_vertices at)

-- an operand is a constant
abbrev pub is_constant : Operand → Bool
is_constant (Const n) = true
is_constant (Vertex v) = false

-- all operands are constants
abbrev pub are_constants : List Operand → Bool
are_constants [] = true
are_constants (o ∷ os) = is_constant o && are_constants os

-- the number of a constant
abbrev pub number_of : Operand → ℤ
number_of (Const n) = n
number_of (Vertex v) = pos 0

-- the value of an operation on constants
abbrev pub folded_value : Op → List Operand → ℤ
folded_value op args = value_at op (map number_of args)

-- an operation on constants alone is a constant, and each other one is a new vertex
abbrev pub operate : Op → ℕ → List Operand → Run Operand (List Node)
operate op at args nodes = if are_constants args then Ok (Const (folded_value op args), nodes) else append_node at op args nodes

-- an output element that holds a constant is a new vertex
abbrev pub settle : ℕ → Operand → Run Operand (List Node)
settle at (Vertex v) nodes = Ok (Vertex v, nodes)
settle at (Const n) nodes = append_node at op.Set (Const n ∷ []) nodes

-- operands, with the nodes of the graph
abbrev pub lowering : Machine Operand (List Node)
lowering = record { constant = Const; operate = operate; output = settle }

-- an input element is a new vertex
abbrev pub input_node : ℕ → Run Operand (List Node)
input_node at = append_node at op.Input []
