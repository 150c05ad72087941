-- A reader is one more member, and another vertex is none.
use Rattle.std.proofs.Common.{◌≡◌, length, ap, ◌∙◌, arith}
use Rattle.std.specs.FinSet.{contains}
use Rattle.comp_graph.specs.Vertices.{set_below}
use Rattle.comp_graph.specs.Graphs.{dag_of}
use Rattle.first_plan.proofs.Calls.{readers_none, readers_more, readers_same}
use Rattle.first_plan.proofs.uses.readers_of.Goals as goal
use Rattle.first_plan.proofs.uses.readers_of.Goals.{then-has, else-has}

pub loop-w-init : goal.loop-w-init
loop-w-init c = record { below = omega arith; readers = c.empty-readers.ensures ∙ readers_none (dag_of c.args.graph.now) c.args.u }

pub loop-w-preserved : goal.loop-w-preserved
loop-w-preserved c =
    let d = dag_of c.args.graph.now in
    elim c.if-has.branch [
      | then-has w ↦ record {
        below = omega arith;
        readers = w.readers-is ∙ readers_more d c.args.u c.loop-w.w c.loop-w.readers w.with-readers.result c.preds.result c.has.result c.loop-w.invariant.readers c.preds.ensures c.has.ensures.value w.if-has.true w.with-readers.ensures;
      }
      | else-has w ↦ record {
        below = omega arith;
        readers = w.readers-is ∙ readers_same d c.args.u c.loop-w.w c.loop-w.readers c.preds.result c.has.result c.loop-w.invariant.readers c.preds.ensures c.has.ensures.value w.if-has.false;
      }
    ]

pub returns : goal.returns
returns c =
    let all : c.loop-w.w ≡ length c.args.graph.now.nodes = (let end = c.len-w-end.ensures.value in let past = c.loop-w-test.false in let below = c.loop-w.invariant.below in omega arith) in
    c.loop-w.invariant.readers ∙ ap (set_below (λ w. contains ((dag_of c.args.graph.now).preds w) c.args.u)) all
