-- The text of a graph: its three numbers, then a line for each vertex in rising number, then one for each output element (this
-- project's convention).
use Rattle.std.specs.Prelude.{ℕ, ◌+◌, List, [], ◌∷◌, ◌++◌, map, length, slice_index_or, if◌then◌else◌, codes}
use Rattle.std.specs.Fmt.{decimal, signed_decimal}
use Rattle.comp_graph.specs.declared.node.Operand.{Operand}
use Rattle.comp_graph.specs.declared.node.Operand.TheVariants.{Vertex, Const}
use Rattle.comp_graph.specs.declared.node.Node.{Node}
use Rattle.comp_graph.specs.declared.node.Output.{Output}
use Rattle.comp_graph.specs.Operations.{op_word}
use Rattle.comp_graph.specs.Graphs.{GraphParts, dag_of, is_input, operands_of}
use Rattle.comp_graph.specs.Dags.{degree}
use Rattle.line_texts.specs.Lines.{ended}
use Rattle.line_texts.specs.Words.{line}

-- an operand: `v` and the vertex, or `#` and the constant
abbrev pub operand_text : Operand → List ℕ
operand_text (Vertex v) = codes "v" ++ decimal v
operand_text (Const c) = codes "#" ++ signed_decimal c

-- a vertex: its number and its operation's word, and then an input's label or the operands that the operation takes
abbrev pub vertex_line : List (List ℕ) → ℕ → Node → List ℕ
vertex_line labels v n =
    line (decimal v) (op_word n.op ∷ (if is_input n.op then slice_index_or labels v [] ∷ [] else map operand_text (operands_of n)))

-- vertices that are numbered from v on
abbrev pub vertex_lines : List (List ℕ) → ℕ → List Node → List (List ℕ)
vertex_lines labels v [] = []
vertex_lines labels v (n ∷ nodes) = vertex_line labels v n ∷ vertex_lines labels (v + 1) nodes

-- an output element: its label and its vertex
abbrev pub output_line : Output → List ℕ
output_line o = line (codes "out") (o.label ∷ (codes "v" ++ decimal o.vertex) ∷ [])

-- the first three lines: how many vertices and inputs there are, and the degree
abbrev pub heading : GraphParts → List (List ℕ)
heading g =
    line (codes "vertices") (decimal (length g.nodes) ∷ [])
    ∷ line (codes "inputs") (decimal (length g.names) ∷ [])
    ∷ line (codes "degree") (decimal (degree (dag_of g)) ∷ [])
    ∷ []

-- the lines of a graph
abbrev pub graph_lines : GraphParts → List (List ℕ)
graph_lines g = heading g ++ (vertex_lines g.names 0 g.nodes ++ map output_line g.outputs)

-- the text of a graph
abbrev pub graph_text : GraphParts → List ℕ
graph_text g = ended (graph_lines g)
