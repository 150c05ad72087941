-- A graph as its title, nodes, input names and output elements; the sets that its nodes give; which graphs are well formed.
use Rattle.std.specs.Prelude.{◌≡◌, ℕ, ◌<◌, ◌≤◌, ◌↔◌, Bool, true, false, List, [], ◌∷◌, length, take, drop, map, pos, Option, Some, None, slice_get}
use Rattle.std.specs.List.{All}
use Rattle.std.specs.FinSet as set
use Rattle.comp_graph.specs.declared.operation.Op.{Op}
use Rattle.comp_graph.specs.declared.operation.Op.TheVariants.{Input, Set}
use Rattle.comp_graph.specs.declared.node.Operand.{Operand}
use Rattle.comp_graph.specs.declared.node.Operand.TheVariants.{Vertex, Const}
use Rattle.comp_graph.specs.declared.node.Node.{Node}
use Rattle.comp_graph.specs.declared.node.Output.{Output}
use Rattle.comp_graph.specs.Operations.{arity_of}
use Rattle.comp_graph.specs.Vertices.{Vertices, set_below}
use Rattle.comp_graph.specs.Dags.{Dag}

-- what a graph holds: the vertices are the places of the nodes
pub record GraphParts : Type 0 where
  pub title : List ℕ
  pub nodes : List Node
  pub names : List (List ℕ)
  pub outputs : List Output

-- the operands that the operation takes
abbrev pub operands_of : Node → List Operand
operands_of n = take (arity_of n.op) n.args

-- the vertices among operands; one that occurs twice is one member
unfoldable pub vertices_of : List Operand → Vertices
vertices_of [] = set.empty
vertices_of (Vertex v ∷ xs) = set.insert (vertices_of xs) v
vertices_of (Const k ∷ xs) = vertices_of xs

-- the predecessors by the node, none where there is no node
abbrev pub preds_of_node : Option Node → Vertices
preds_of_node None = set.empty
preds_of_node (Some n) = vertices_of (operands_of n)

-- the immediate predecessors of a vertex; a number that is no vertex has none
unfoldable pub preds_of : GraphParts → ℕ → Vertices
preds_of g v = preds_of_node (slice_get g.nodes v)

-- whether an operation is `Input`
abbrev pub is_input : Op → Bool
is_input Input = true
is_input _ = false

-- whether there is a node, and its operation is `Input`
abbrev pub is_input_node : Option Node → Bool
is_input_node None = false
is_input_node (Some n) = is_input n.op

-- the vertices whose operation is Input
unfoldable pub inputs_of : GraphParts → Vertices
inputs_of g = set_below (λ v. is_input_node (slice_get g.nodes v)) (length g.nodes)

-- the vertices that an output element names
unfoldable pub outputs_of : GraphParts → Vertices
outputs_of g = set.from_list (map (λ o. o.vertex) g.outputs)

-- what the game is played on
abbrev pub dag_of : GraphParts → Dag
dag_of g = record { count = length g.nodes; preds = preds_of g; inputs = inputs_of g; outputs = outputs_of g }

-- an operand of node v is a constant or a vertex below v
abbrev pub IsOperandBelow : ℕ → Operand → Type 0
IsOperandBelow v (Vertex u) = u < v
IsOperandBelow v (Const k) = Unit {0}

-- an operand is a constant
abbrev pub IsConstant : Operand → Type 0
IsConstant (Vertex u) = ⊥
IsConstant (Const k) = Unit {0}

-- The node of vertex v, where there are so many inputs: just the first nodes are inputs, operands are constants or earlier
-- vertices, a `Set` has a constant, and of the three places for operands those from the arity on hold the constant 0
pub record IsNode (inputs v : ℕ) (n : Node) : Type 0 where
  pub three : length n.args ≡ 3
  pub input_first : (n.op ≡ Input) ↔ (v < inputs)
  pub below : All (IsOperandBelow v) (operands_of n)
  pub set_constant : n.op ≡ Set → All IsConstant (operands_of n)
  pub rest : All (λ a. a ≡ Const (pos 0)) (drop (arity_of n.op) n.args)

-- at most 256 vertices, a name for each input, and each output element names a vertex
pub record IsGraph (g : GraphParts) : Type 0 where
  pub small : length g.nodes ≤ 256
  pub named : length g.names ≤ length g.nodes
  pub nodes : (v : ℕ) (n : Node) → slice_get g.nodes v ≡ Some n → IsNode (length g.names) v n
  pub outputs : All (λ o. o.vertex < length g.nodes) g.outputs
