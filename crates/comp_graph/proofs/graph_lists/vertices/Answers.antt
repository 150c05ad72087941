use Rattle.std.proofs.Common.{ap, ◌∙◌, sym}
use Rattle.std.specs.FinSet as set
use Rattle.comp_graph.specs.Graphs.{vertices_of}
use Rattle.comp_graph.proofs.GraphLaws.{vertices_more_vertex, vertices_more_const}
use Rattle.comp_graph.proofs.graph_lists.vertices.Goals.{in-Vertex, in_default}
use Rattle.comp_graph.proofs.graph_lists.vertices.Goals as goal

pub loop-operand-init : goal.loop-operand-init
unfolding vertices_of
loop-operand-init c = c.empty-found.ensures

pub loop-operand-preserved : goal.loop-operand-preserved
loop-operand-preserved c =
    elim c.match-operand.branch [
      | in-Vertex w ↦ w.found-is ∙ w.with-found.ensures ∙ ap (λ s. set.insert s w.in-Vertex.v) c.loop-operand.invariant ∙ sym (vertices_more_vertex _ _ _ _ c.loop-operand-test.true w.in-Vertex.is)
      | in_default w ↦ w.found-is ∙ c.loop-operand.invariant ∙ sym (vertices_more_const _ _ _ _ c.loop-operand-test.true w.in_default.is)
    ]
