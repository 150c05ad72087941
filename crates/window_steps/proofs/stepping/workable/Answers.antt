use Rattle.std.proofs.Common.{◌≡◌, length, ap, ◌∙◌, arith}
use Rattle.comp_graph.specs.Games.{game_of}
use Rattle.window_steps.specs.Sets.{window_of}
use Rattle.window_steps.specs.StepTests.{can_work_in}
use Rattle.window_steps.proofs.Calls.{none_below, one_more, none_more, works_are, works_bounded}
use Rattle.window_steps.proofs.stepping.workable.Goals.{then-is_workable, else-is_workable}
use Rattle.window_steps.proofs.stepping.workable.Goals as goal

pub loop-v-init : goal.loop-v-init
loop-v-init c = record {
  below = omega arith;
  works = none_below (can_work_in (game_of c.args.game.now) (window_of c.args.window.now) c.args.position.now) c.empty-works.result c.empty-works.ensures;
}

pub loop-v-preserved : goal.loop-v-preserved
loop-v-preserved c =
    let test = can_work_in (game_of c.args.game.now) (window_of c.args.window.now) c.args.position.now in
    elim c.if-is_workable.branch [
      | then-is_workable w ↦ record {
        below = omega arith;
        works = one_more test c.loop-v.v c.loop-v.works c.if-is_workable.works c.is_workable.result c.loop-v.invariant.works c.is_workable.ensures w.if-is_workable.true (w.works-is ∙ w.with-works.ensures);
      }
      | else-is_workable w ↦ record {
        below = omega arith;
        works = none_more test c.loop-v.v c.loop-v.works c.if-is_workable.works c.is_workable.result c.loop-v.invariant.works c.is_workable.ensures w.if-is_workable.false w.works-is;
      }
    ]

pub returns-clause-members : goal.returns-clause-members
returns-clause-members c =
    let end = c.len-v-end.ensures.value ∙ ap (λ g. length g.nodes) c.graph.ensures.value in
    let all : c.loop-v.v ≡ length c.args.game.now.graph.nodes = (let past = c.loop-v-test.false in let below = c.loop-v.invariant.below in omega arith) in
    works_are c.args.game.now c.graph.ensures.valid.valid (window_of c.args.window.now) c.args.position.now c.loop-v.v c.loop-v.works c.loop-v.invariant.works all

pub returns-clause-bounded : goal.returns-clause-bounded
returns-clause-bounded c =
    let end = c.len-v-end.ensures.value ∙ ap (λ g. length g.nodes) c.graph.ensures.value in
    let all : c.loop-v.v ≡ length c.args.game.now.graph.nodes = (let past = c.loop-v-test.false in let below = c.loop-v.invariant.below in omega arith) in
    works_bounded c.args.game.now c.graph.ensures.valid.valid (can_work_in (game_of c.args.game.now) (window_of c.args.window.now) c.args.position.now) c.loop-v.v c.loop-v.works c.loop-v.invariant.works all
