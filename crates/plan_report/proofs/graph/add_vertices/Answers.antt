-- Each node of a graph is one that its place and the number of its inputs allow.
use Rattle.std.proofs.Common.{◌≡◌, ℕ, ◌<◌, List, length, get_or, sym, ap, ◌∙◌, subst}
use Rattle.std.specs.Prelude.{slice_get}
use Rattle.std.proofs.lemmas.Option.{slice_get-get_or}
use Rattle.comp_graph.specs.declared.node.Node.{Node}
use Rattle.comp_graph.specs.Graphs.{GraphParts, IsGraph, IsNode}
use Rattle.plan_report.proofs.graph.add_vertices.Goals as goal

node_at : (g : GraphParts) (nodes : List Node) (names : List (List ℕ)) (v : ℕ) (d : Node) → IsGraph g → nodes ≡ g.nodes → names ≡ g.names → v < length nodes → IsNode (length names) v (get_or nodes v d)
node_at g nodes names v d valid same named h =
    let node = valid.nodes v (get_or nodes v d) (ap (λ z. slice_get z v) (sym same) ∙ slice_get-get_or nodes v d h) in
    subst (λ z. IsNode (length z) v (get_or nodes v d)) (sym named) node

pub add_vertex-requires : goal.add_vertex-requires
add_vertex-requires c =
    node_at c.args.graph.now c.nodes-node-items.result.now c.names-names.result.now c.loop-v.v _ c.nodes-node-items.ensures.valid c.nodes-node-items.ensures.value c.names-names.ensures c.loop-v-test.true
