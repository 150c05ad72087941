use Rattle.std.proofs.Common.{refl, sym, take}
use Rattle.comp_graph.specs.Graphs.{vertices_of}
use Rattle.comp_graph.proofs.GraphLaws.{vertices_more_vertex, vertices_more_const}
use Rattle.forced_bounds.proofs.OperandLaws.{some_start, some_more, some_same}
use Rattle.forced_bounds.proofs.operands.some_in.Goals.{in-Vertex, in_default}
use Rattle.forced_bounds.proofs.operands.some_in.Goals as goal

pub loop-operand-init : goal.loop-operand-init
loop-operand-init c = some_start c.args.set.now

pub loop-operand-preserved : goal.loop-operand-preserved
loop-operand-preserved c =
    let before = vertices_of (take c.loop-operand.operand-index c.args.operands.now) in
    elim c.match-operand.branch [
      | in-Vertex w ↦ some_same _ _ c.args.set.now _ _ (sym (vertices_more_vertex _ _ _ _ c.loop-operand-test.true w.in-Vertex.is)) (sym w.some-is)
          (some_more before c.args.set.now c.loop-operand.some w.has-some.result _ w.in-Vertex.u c.loop-operand.invariant w.has-some.ensures.value refl)
      | in_default w ↦ some_same _ _ c.args.set.now _ _ (sym (vertices_more_const _ _ _ _ c.loop-operand-test.true w.in_default.is)) (sym w.some-is) c.loop-operand.invariant
    ]
