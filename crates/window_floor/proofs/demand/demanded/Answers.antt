use Rattle.std.proofs.Common.{◌≡◌, suc, ◌-◌, length, ap, ◌∙◌, sym, refl, arith}
use Rattle.std.specs.FinSet.{union, difference}
use Rattle.comp_graph.specs.Games.{game_of}
use Rattle.comp_graph.proofs.GraphLaws.{IsDag-dag_of}
use Rattle.forced_bounds.proofs.DemandLaws.{swept_start, swept_in, swept_at, swept_end}
use Rattle.window_laws.specs.Entry.{known_dag}
use Rattle.window_steps.specs.Sets.{window_of}
use Rattle.window_floor.proofs.ConeLoops.{known_is_dag, swept_needed}
use Rattle.window_floor.proofs.demand.demanded.Goals as goal

pub loop-v-init : goal.loop-v-init
loop-v-init c =
    let g = game_of c.args.game.now in
    let w = window_of c.args.window.now in
    let d = known_dag g w in
    let dag = known_is_dag g (IsDag-dag_of c.args.game.now.graph c.graph.ensures.valid.valid) w c.requires in
    let held = c.union-held.result in
    let bare = c.minus-needed.ensures ∙ ap (λ s. difference s held) c.outputs.ensures ∙ ap (difference d.outputs) c.union-held.ensures in
    let end = c.len-end.ensures.value ∙ ap (λ g. length g.nodes) c.graph.ensures.value in
    swept_at d c.args.position.now d.count c.len-end.result (sym end) _ _ refl _ _ refl
    (swept_start d dag c.args.position.now c.minus-needed.result c.empty-read.result bare c.empty-read.ensures)

pub loop-v-preserved-then-has : goal.loop-v-preserved-then-has
loop-v-preserved-then-has c =
    let g = game_of c.args.game.now in
    let w = window_of c.args.window.now in
    let d = known_dag g w in
    let p = c.args.position.now in
    let dag = known_is_dag g (IsDag-dag_of c.args.game.now.graph c.graph.ensures.valid.valid) w c.requires in
    let held = c.union-held.result in
    let v = c.loop-v.v - 1 in
    let here : c.loop-v.v ≡ suc v = omega (arith, c.loop-v-test.true) in
    let swept = swept_at d p c.loop-v.v (suc v) here c.loop-v.needed c.loop-v.needed refl c.loop-v.read c.loop-v.read refl c.loop-v.invariant in
    let found = c.union-needed.ensures ∙ ap (union c.loop-v.needed) (c.minus.ensures ∙ ap (λ s. difference s held) c.operands-of_v.ensures ∙ ap (difference (d.preds v)) c.union-held.ensures) in
    swept_at d p v v refl _ _ (sym found) _ _ (sym (c.union-read.ensures ∙ ap (union c.loop-v.read) c.operands-of_v.ensures))
    (swept_in d dag p v c.loop-v.needed c.loop-v.read swept (sym c.has.ensures.value ∙ c.if-has.true))

pub returns-clause-needed : goal.returns-clause-needed
returns-clause-needed c =
    let g = game_of c.args.game.now in
    let w = window_of c.args.window.now in
    let dag = known_is_dag g (IsDag-dag_of c.args.game.now.graph c.graph.ensures.valid.valid) w c.requires in
    swept_needed (known_dag g w) dag c.args.position.now c.loop-v.needed c.loop-v.read
    (swept_at (known_dag g w) c.args.position.now c.loop-v.v 0 (omega (arith, c.loop-v-test.false)) _ _ refl _ _ refl c.loop-v.invariant)

pub returns-clause-wanted : goal.returns-clause-wanted
returns-clause-wanted c =
    let g = game_of c.args.game.now in
    let w = window_of c.args.window.now in
    let dag = known_is_dag g (IsDag-dag_of c.args.game.now.graph c.graph.ensures.valid.valid) w c.requires in
    c.union-wanted.ensures ∙ ap (union c.loop-v.needed) c.minus-2.ensures
    ∙ swept_end (known_dag g w) dag c.args.position.now c.loop-v.needed c.loop-v.read
    (swept_at (known_dag g w) c.args.position.now c.loop-v.v 0 (omega (arith, c.loop-v-test.false)) _ _ refl _ _ refl c.loop-v.invariant)
