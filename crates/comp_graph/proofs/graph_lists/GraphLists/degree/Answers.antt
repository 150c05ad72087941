use Rattle.std.proofs.Common.{ap, ◌∙◌, sym, arith}
use Rattle.std.specs.FinSet as set
use Rattle.comp_graph.specs.Vertices.{greatest_below}
use Rattle.comp_graph.specs.Graphs.{dag_of}
use Rattle.comp_graph.proofs.Degree.{live_preds, most_more, most_same}
use Rattle.comp_graph.proofs.GraphLaws.{IsDag-dag_of}
use Rattle.comp_graph.proofs.graph_lists.GraphLists.degree.Goals.{then-has, else-has}
use Rattle.comp_graph.proofs.graph_lists.GraphLists.degree.Goals as goal

pub loop-v-preserved : goal.loop-v-preserved
loop-v-preserved c =
    let ok = IsDag-dag_of c.args.self.now c.len-v-end.ensures.valid in
    let at = ap (λ s. set.contains s c.loop-v.v) (sym c.requires) in
    elim c.if-has.branch [
      | then-has w ↦
          most_more (dag_of c.args.self.now) ok c.loop-v.v c.loop-v.most _ _ (at ∙ sym c.has.ensures.value ∙ w.if-has.true) c.loop-v.invariant (w.count.ensures.value ∙ ap set.len w.preds.ensures) (w.most-is ∙ w.max-most.ensures)
      | else-has w ↦
          most_same (dag_of c.args.self.now) ok c.loop-v.v c.loop-v.most _ (at ∙ sym c.has.ensures.value ∙ w.if-has.false) c.loop-v.invariant w.most-is
    ]

pub returns : goal.returns
returns c =
    c.loop-v.invariant ∙ ap (λ n. greatest_below n (live_preds (dag_of c.args.self.now))) (omega (arith, c.len-v-end.ensures.value, c.loop-v-test.false, c.loop-v.auto.v-end))
