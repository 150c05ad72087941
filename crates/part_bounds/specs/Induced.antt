-- The graph of a part, with its nodes, names and output elements.
use Rattle.std.specs.Prelude.{ℕ, suc, cond, List, [], ◌∷◌, map, pos}
use Rattle.std.specs.FinSet as set
use Rattle.comp_graph.specs.declared.node.Operand.{Operand}
use Rattle.comp_graph.specs.declared.node.Operand.TheVariants.{Vertex, Const}
use Rattle.comp_graph.specs.declared.node.Node.{Node}
use Rattle.comp_graph.specs.declared.node.Output.{Output}
use Rattle.comp_graph.specs.Vertices.{Vertices}
use Rattle.comp_graph.specs.Graphs.{GraphParts}
use Rattle.comp_graph.specs.Games.{GameParts}
use Rattle.part_bounds.specs.Cuts.{place}

-- an operand outside the part is the constant 0
abbrev pub cut_operand : Vertices → Operand → Operand
cut_operand s (Vertex v) = cond (set.contains s v) (Vertex (place s v)) (Const (pos 0))
cut_operand s (Const c) = Const c

-- a node with its operands cut
abbrev pub cut_node : Vertices → Node → Node
cut_node s n = record { op = n.op; args = map (cut_operand s) n.args }

-- the elements of a list whose places lie in the part; the list begins at place `at`
abbrev pub kept : {A : Type 0} → Vertices → ℕ → List A → List A
kept s at [] = []
kept s at (x ∷ xs) = cond (set.contains s at) (x ∷ kept s (suc at) xs) (kept s (suc at) xs)

-- the output elements whose vertices lie in the part
abbrev pub cut_outputs : Vertices → List Output → List Output
cut_outputs s [] = []
cut_outputs s (o ∷ os) = cond (set.contains s o.vertex) (record { label = o.label; vertex = place s o.vertex } ∷ cut_outputs s os) (cut_outputs s os)

-- the graph of the part: its nodes, names and outputs are those of the graph that lie in the part, in their order
unfoldable pub induced : GraphParts → Vertices → GraphParts
induced g s = record {
  title = g.title;
  nodes = map (cut_node s) (kept s 0 g.nodes);
  names = kept s 0 g.names;
  outputs = cut_outputs s g.outputs;
}

-- the game on it, with the same slots and weights
abbrev pub induced_game : GameParts → Vertices → GameParts
induced_game g s = record { graph = induced g.graph s; slots = g.slots; weights = g.weights }
