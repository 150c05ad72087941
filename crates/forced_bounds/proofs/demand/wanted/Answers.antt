use Rattle.std.proofs.Common.{◌≡◌, ap, ◌∙◌, sym, refl, ◌-◌, suc, arith}
use Rattle.std.specs.FinSet as set
use Rattle.comp_graph.specs.Graphs.{dag_of}
use Rattle.comp_graph.proofs.GraphLaws.{IsDag-dag_of}
use Rattle.forced_bounds.proofs.DemandLaws.{swept_start, swept_in, swept_at, swept_end, high_start, high_in, high_at, high_end, none_by_least, none_below, none_wanted}
use Rattle.forced_bounds.proofs.demand.wanted.Goals as goal

pub returns-then-is_none-clause-value : goal.returns-then-is_none-clause-value
returns-then-is_none-clause-value c =
    let g = dag_of c.args.graph.now in
    let held = c.union-held.result in
    none_wanted g (IsDag-dag_of c.args.graph.now c.len-end.ensures.valid) c.args.p.now c.minus-needed.result
    (c.minus-needed.ensures ∙ ap (λ s. set.difference s held) c.out_set-outputs.ensures ∙ ap (set.difference g.outputs) c.union-held.ensures)
    (none_by_least c.least.result c.is_none.result c.minus-needed.result c.least.ensures.value c.is_none.ensures c.if-is_none.true)

pub returns-then-is_none-clause-below : goal.returns-then-is_none-clause-below
returns-then-is_none-clause-below c =
    none_below c.minus-needed.result 0 (none_by_least c.least.result c.is_none.result c.minus-needed.result c.least.ensures.value c.is_none.ensures c.if-is_none.true)

pub loop-v-init : goal.loop-v-init
loop-v-init c =
    let g = dag_of c.args.graph.now in
    let held = c.union-held.result in
    let bare = c.minus-needed.ensures ∙ ap (λ s. set.difference s held) c.out_set-outputs.ensures ∙ ap (set.difference g.outputs) c.union-held.ensures in
    let swept = swept_start g (IsDag-dag_of c.args.graph.now c.len-end.ensures.valid) c.args.p.now c.minus-needed.result c.empty-read.result bare c.empty-read.ensures in
    record {
      swept = swept_at g c.args.p.now g.count c.len-end.result (sym c.len-end.ensures.value) _ _ refl _ _ refl swept;
      high = high_at g.count c.len-end.result (sym c.len-end.ensures.value) _ _ refl 0 (high_start g (IsDag-dag_of c.args.graph.now c.len-end.ensures.valid) c.args.p.now c.minus-needed.result c.empty-read.result 0 swept bare);
      few = omega arith;
    }

pub loop-v-preserved-then-has : goal.loop-v-preserved-then-has
loop-v-preserved-then-has c =
    let g = dag_of c.args.graph.now in
    let p = c.args.p.now in
    let dag = IsDag-dag_of c.args.graph.now c.len-end.ensures.valid in
    let held = c.union-held.result in
    let v = c.loop-v.v - 1 in
    let here : c.loop-v.v ≡ suc v = omega (arith, c.loop-v-test.true) in
    let swept = swept_at g p c.loop-v.v (suc v) here c.loop-v.needed c.loop-v.needed refl c.loop-v.read c.loop-v.read refl c.loop-v.invariant.swept in
    let high = high_at c.loop-v.v (suc v) here c.loop-v.needed c.loop-v.needed refl c.loop-v.top c.loop-v.invariant.high in
    let found = c.union-needed.ensures ∙ ap (set.union c.loop-v.needed) (c.minus.ensures ∙ ap (λ s. set.difference s held) c.preds-preds.ensures ∙ ap (set.difference (g.preds v)) c.union-held.ensures) in
    let most = c.max-top.ensures in
    let few = c.loop-v.invariant.few in
    let end = c.loop-v.auto.v in
    record {
      swept = swept_at g p v v refl _ _ (sym found) _ _ (sym (c.union-read.ensures ∙ ap (set.union c.loop-v.read) c.preds-preds.ensures))
          (swept_in g dag p v c.loop-v.needed c.loop-v.read swept (sym c.has.ensures.value ∙ c.if-has.true));
      high = high_at v v refl _ _ (sym found) c.max-top.result (high_in g dag p v c.loop-v.top c.max-top.result c.loop-v.needed high (omega arith) (omega arith));
      few = omega (arith, c.len-end.ensures.value, c.loop-v-test.true);
    }

pub returns-clause-value : goal.returns-clause-value
returns-clause-value c =
    let g = dag_of c.args.graph.now in
    c.union-vertices.ensures ∙ ap (set.union c.loop-v.needed) c.minus-2.ensures
    ∙ swept_end g (IsDag-dag_of c.args.graph.now c.len-end.ensures.valid) c.args.p.now c.loop-v.needed c.loop-v.read
    (swept_at g c.args.p.now c.loop-v.v 0 (omega (arith, c.loop-v-test.false)) _ _ refl _ _ refl c.loop-v.invariant.swept)

pub returns-clause-below : goal.returns-clause-below
returns-clause-below c =
    let g = dag_of c.args.graph.now in
    let zero_is : c.loop-v.v ≡ 0 = omega (arith, c.loop-v-test.false) in
    high_end g (IsDag-dag_of c.args.graph.now c.len-end.ensures.valid) c.args.p.now c.loop-v.needed c.loop-v.read c.union-vertices.result c.loop-v.top
    (swept_at g c.args.p.now c.loop-v.v 0 zero_is _ _ refl _ _ refl c.loop-v.invariant.swept)
    (high_at c.loop-v.v 0 zero_is _ _ refl c.loop-v.top c.loop-v.invariant.high)
    (c.union-vertices.ensures ∙ ap (set.union c.loop-v.needed) c.minus-2.ensures)
