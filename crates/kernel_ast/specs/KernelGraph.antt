-- The graph of a kernel (this project's convention): its vertices are the entries of the log.
use Rattle.std.specs.Prelude.{ℕ, pos, List, [], ◌∷◌, map, Result, Ok}
use Rattle.std.specs.List.{zip}
use Rattle.comp_graph.specs.declared.node.Operand.{Operand}
use Rattle.comp_graph.specs.declared.node.Operand.TheVariants.{Vertex, Const}
use Rattle.comp_graph.specs.declared.node.Node.{Node}
use Rattle.comp_graph.specs.declared.node.Output.{Output as OutputElement}
use Rattle.comp_graph.specs.Graphs.{GraphParts}
use Rattle.kernel_ast.specs.declared.tree.DeclKind.TheVariants.{Input, Output}
use Rattle.kernel_ast.specs.declared.element.Fault.{Fault}
use Rattle.kernel_ast.specs.KernelParts.{KernelParts}
use Rattle.kernel_ast.specs.Steps.{and_then}
use Rattle.kernel_ast.specs.Labels.{labels_of}
use Rattle.kernel_ast.specs.Meaning.{Entry, kernel_meaning}

-- three operands, with the constant 0 in the places that are left
abbrev pub padded : List Operand → List Operand
padded [] = Const (pos 0) ∷ Const (pos 0) ∷ Const (pos 0) ∷ []
padded (a ∷ []) = a ∷ Const (pos 0) ∷ Const (pos 0) ∷ []
padded (a ∷ b ∷ []) = a ∷ b ∷ Const (pos 0) ∷ []
padded (a ∷ b ∷ c ∷ more) = a ∷ b ∷ c ∷ []

-- the node of an entry of the log
abbrev pub node_of : Entry → Node
node_of e = record { op = e.op; args = padded e.operands }

-- the vertex that an origin is
abbrev pub vertex_of : Operand → ℕ
vertex_of (Vertex v) = v
vertex_of (Const n) = 0

-- an output element by its label and its origin
abbrev pub output_of : List ℕ × Operand → OutputElement
output_of o = record { label = o.0; vertex = vertex_of o.1 }

-- the graph of this log, where the output elements have these origins
abbrev pub graph_by : KernelParts → List Operand × List Entry → GraphParts
graph_by k r = record {
  title = k.title;
  nodes = map node_of r.1;
  names = labels_of Input k.decls;
  outputs = map output_of (zip (labels_of Output k.decls) r.0);
}

-- the graph of a kernel, or its first fault
abbrev pub graph_of : KernelParts → Result GraphParts Fault
graph_of k = and_then (kernel_meaning k) (λ r. Ok (graph_by k (map (λ h. h.origin) r.0, r.1)))
