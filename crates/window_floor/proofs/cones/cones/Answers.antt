use Rattle.std.proofs.Common.{suc, refl, ap, sym, ◌∙◌, subst, arith}
use Rattle.std.specs.FinSet.{contains, union}
use Rattle.comp_graph.specs.Games.{game_of}
use Rattle.comp_graph.proofs.GraphLaws.{IsDag-dag_of}
use Rattle.forced_bounds.specs.Floor.{meets, only}
use Rattle.window_steps.specs.Sets.{window_of}
use Rattle.window_floor.specs.GreedyCones.{walked_back}
use Rattle.window_floor.proofs.ConeLoops.{IsMet, IsNext, met_start, next_unwanted, next_met, next_taken}
use Rattle.window_floor.proofs.cones.cones.Goals.{then-has+in-Some, then-has+in-None, else-has}
use Rattle.window_floor.proofs.cones.cones.Goals as goal

pub loop-v-init : goal.loop-v-init
loop-v-init c = record {
  below = omega arith;
  met = met_start (game_of c.args.game.now) (window_of c.args.window.now) c.args.position.now c.args.avoid.now c.args.avoid.now refl;
  count = refl;
  few = omega arith;
}

pub loop-v-preserved : goal.loop-v-preserved
loop-v-preserved c =
    let g = game_of c.args.game.now in
    let w = window_of c.args.window.now in
    let p = c.args.position.now in
    let avoid = c.args.avoid.now in
    let v = c.loop-v.v in
    let met = c.loop-v.met in
    let dag = IsDag-dag_of c.args.game.now.graph c.graph.ensures.valid.valid in
    let same = ap (λ s. walked_back g w s (suc v) (only v)) c.requires.cheap in
    let tested = ap (λ s. contains s v) (sym c.requires.wanted) ∙ sym c.has.ensures.value in
    let few = c.loop-v.invariant.few in
    elim c.if-has.branch [
      | then-has+in-Some b ↦
          (let next : IsNext g w p avoid v c.if-has.met c.if-has.count =
          next_taken g w p avoid v met c.if-has.met c.loop-v.count c.if-has.count c.loop-v.invariant.met c.loop-v.invariant.count (tested ∙ b.if-has.true)
          (ap (λ s. meets s met) (sym same) ∙ b.in-Some.ensures.1) (b.met-is ∙ b.union-met.ensures ∙ ap (union met) (b.in-Some.ensures.0 ∙ same)) b.count-is in
          record { below = omega arith; met = next.still; count = next.counted; few = omega (arith, few, b.count-is) })
      | then-has+in-None b ↦
          (let next : IsNext g w p avoid v c.if-has.met c.if-has.count =
          next_met g dag w p avoid v met c.if-has.met c.if-has.count c.loop-v.invariant.met (b.count-is ∙ c.loop-v.invariant.count)
          (ap (λ s. meets s met) (sym same) ∙ b.in-None.ensures) (b.met-is ∙ b.with-met.ensures) in
          record { below = omega arith; met = next.still; count = next.counted; few = omega (arith, few, b.count-is) })
      | else-has b ↦
          (let next : IsNext g w p avoid v c.if-has.met c.if-has.count =
          next_unwanted g w p avoid v c.if-has.met c.if-has.count (subst (IsMet g w p avoid v) (sym b.met-is) c.loop-v.invariant.met) (b.count-is ∙ c.loop-v.invariant.count) (tested ∙ b.if-has.false) in
          record { below = omega arith; met = next.still; count = next.counted; few = omega (arith, few, b.count-is) })
    ]
