use Rattle.std.proofs.Common.{ap, ◌∙◌, sym, subst, ◌-◌, ◌<◌, arith}
use Rattle.std.specs.FinSet as set
use Rattle.comp_graph.specs.Vertices.{size}
use Rattle.comp_graph.specs.Graphs.{dag_of}
use Rattle.comp_graph.proofs.GraphLaws.{IsDag-dag_of}
use Rattle.forced_bounds.proofs.SpreadLaws.{spread_start, spread_more, spread_met, spread_end, spread_at, spread_smaller, in_right, common_by_least, apart_by_least}
use Rattle.forced_bounds.proofs.spread.free_cone.Goals as goal

pub with-cone-requires : goal.with-cone-requires
with-cone-requires c = let below = c.requires.vertex in let few = c.requires.graph.small in omega arith

pub loop-w-init : goal.loop-w-init
loop-w-init c =
    spread_start (dag_of c.args.graph.now) (IsDag-dag_of c.args.graph.now c.requires.graph) c.args.v c.args.avoid.now c.args.met.now c.with-cone.result c.args.first.now
    (c.with-cone.ensures ∙ ap (λ s. set.insert s c.args.v) c.empty.ensures) c.requires.first c.requires.itself c.requires.apart

pub preds-requires : goal.preds-requires
preds-requires c =
    let low = c.loop-w.invariant.below c.in-Some.w (in_right c.loop-w.cone c.loop-w.ahead c.in-Some.w c.in-Some.ensures.value.member) in
    let below = c.requires.vertex in
    omega arith

pub returns-then-is_some : goal.returns-then-is_some
returns-then-is_some c =
    let g = dag_of c.args.graph.now in
    let shared = common_by_least c.least-in-Some.result c.is_some.result c.minus-more.result c.args.met.now c.meet.result c.meet.ensures c.least-in-Some.ensures.value c.is_some.ensures c.if-is_some.true in
    spread_met g c.args.v c.in-Some.w shared.0 c.args.avoid.now c.args.met.now c.loop-w.cone c.loop-w.ahead c.minus-more.result c.loop-w.invariant c.in-Some.ensures.value.member
    (c.minus-more.ensures ∙ ap (λ s. set.difference s c.with-cone-in-Some.result) (c.minus.ensures ∙ ap (λ s. set.difference s c.args.avoid.now) c.preds.ensures)
    ∙ ap (set.difference (set.difference (g.preds c.in-Some.w) c.args.avoid.now)) c.with-cone-in-Some.ensures)
    shared.1 shared.2

pub loop-w-smaller : goal.loop-w-smaller
loop-w-smaller c =
    subst (λ s. 256 - size s < 256 - size c.loop-w.cone) (sym c.with-cone-in-Some.ensures)
    (spread_smaller (dag_of c.args.graph.now) c.args.v c.in-Some.w c.args.avoid.now c.args.met.now c.loop-w.cone c.loop-w.ahead c.loop-w.invariant c.in-Some.ensures.value.member
    (let below = c.requires.vertex in let few = c.requires.graph.small in omega arith))

pub loop-w-preserved : goal.loop-w-preserved
loop-w-preserved c =
    let g = dag_of c.args.graph.now in
    spread_at g c.args.v c.args.avoid.now c.args.met.now _ _ _ _ (sym c.with-cone-in-Some.ensures)
    (sym (c.union-ahead.ensures ∙ ap (λ s. set.union s c.minus-more.result) c.without.ensures))
    (spread_more g (IsDag-dag_of c.args.graph.now c.requires.graph) c.args.v c.in-Some.w c.args.avoid.now c.args.met.now c.loop-w.cone c.loop-w.ahead c.minus-more.result c.loop-w.invariant c.in-Some.ensures.value.member
    (c.minus-more.ensures ∙ ap (λ s. set.difference s c.with-cone-in-Some.result) (c.minus.ensures ∙ ap (λ s. set.difference s c.args.avoid.now) c.preds.ensures)
    ∙ ap (set.difference (set.difference (g.preds c.in-Some.w) c.args.avoid.now)) c.with-cone-in-Some.ensures)
    (apart_by_least c.least-in-Some.result c.is_some.result c.minus-more.result c.args.met.now c.meet.result c.meet.ensures c.least-in-Some.ensures.value c.is_some.ensures c.if-is_some.false))

pub returns : goal.returns
returns c =
    spread_end (dag_of c.args.graph.now) c.args.v c.args.avoid.now c.args.met.now c.loop-w.cone c.loop-w.ahead c.loop-w.invariant c.in_default.ensures.value
