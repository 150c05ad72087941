use Rattle.std.proofs.Common.{ap, ◌∙◌, sym, refl, ◌+◌, ◌-◌, arith}
use Rattle.std.specs.FinSet as set
use Rattle.comp_graph.specs.Graphs.{dag_of}
use Rattle.comp_graph.proofs.Live.{IsSwept-start, IsSwept-in, IsSwept-out, IsSwept-end, IsSwept-at, live_of_is}
use Rattle.comp_graph.proofs.GraphLaws.{IsDag-dag_of}
use Rattle.comp_graph.proofs.graph_lists.GraphLists.live.Goals as goal

pub loop-v-init : goal.loop-v-init
loop-v-init c = IsSwept-at _ _ _ (sym c.len-v.ensures.value) (sym c.out_set-live.ensures) (IsSwept-start (dag_of c.args.self.now) (IsDag-dag_of c.args.self.now c.len-v.ensures.valid))

pub loop-v-preserved-then-has : goal.loop-v-preserved-then-has
loop-v-preserved-then-has c =
    let ok = IsDag-dag_of c.args.self.now c.len-v.ensures.valid in
    let before = IsSwept-at (dag_of c.args.self.now) c.loop-v.v (c.loop-v.v - 1 + 1) (omega (arith, c.loop-v-test.true)) refl c.loop-v.invariant in
    let swept = IsSwept-in (dag_of c.args.self.now) (c.loop-v.v - 1) c.loop-v.live ok (omega (arith, c.len-v.ensures.value, c.loop-v-test.true)) before (sym c.has.ensures.value ∙ c.if-has.true) in
    IsSwept-at (dag_of c.args.self.now) (c.loop-v.v - 1) (c.loop-v.v - 1) refl (sym (c.union-live.ensures ∙ ap (set.union c.loop-v.live) c.preds.ensures)) swept

pub loop-v-preserved : goal.loop-v-preserved
loop-v-preserved c =
    let before = IsSwept-at (dag_of c.args.self.now) c.loop-v.v (c.loop-v.v - 1 + 1) (omega (arith, c.loop-v-test.true)) refl c.loop-v.invariant in
    IsSwept-out (dag_of c.args.self.now) (c.loop-v.v - 1) c.loop-v.live before (sym c.has.ensures.value ∙ c.if-has.false)

pub returns : goal.returns
returns c =
    let d = dag_of c.args.self.now in
    let swept = IsSwept-end d c.loop-v.live (IsSwept-at d c.loop-v.v 0 (omega (arith, c.loop-v-test.false)) refl c.loop-v.invariant) in
    live_of_is d c.loop-v.live (IsDag-dag_of c.args.self.now c.len-v.ensures.valid) swept
