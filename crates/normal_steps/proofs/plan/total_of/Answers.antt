use Rattle.std.proofs.Common.{arith}
use Rattle.comp_graph.specs.Games.{game_of}
use Rattle.normal_steps.proofs.Workable.{not_both}
use Rattle.normal_steps.proofs.Playing.{under_way_next, no_step_no_plan, dear_step_no_plan, bare_no_plan}
use Rattle.normal_steps.proofs.plan.total_of.Goals as goal

pub returns-then-not-legal-clause-none : goal.returns-then-not-legal-clause-none
returns-then-not-legal-clause-none c =
    no_step_no_plan (game_of c.args.game.now) c.args.steps.now c.loop-step.step-index c.loop-step.position c.loop-step.total _ c.loop-step.invariant c.loop-step-test.true
    (λ is. not_both c.legal.result (c.legal.ensures.1 is) c.if-not-legal.true)

pub returns-in_err-total-clause-none : goal.returns-in_err-total-clause-none
returns-in_err-total-clause-none c =
    rw c.from_residual.ensures
    (dear_step_no_plan (game_of c.args.game.now) c.args.steps.now c.loop-step.step-index c.loop-step.position c.loop-step.total c.cost.result _ c.loop-step.invariant c.loop-step-test.true
    c.cost.ensures (let over = c.in_err-total.ensures in omega arith))

pub loop-step-preserved : goal.loop-step-preserved
loop-step-preserved c =
    under_way_next (game_of c.args.game.now) c.args.steps.now c.loop-step.step-index c.loop-step.position c.after-position.result c.loop-step.total c.cost.result c.in_ok-total.total _
    c.loop-step.invariant c.loop-step-test.true (c.legal.ensures.0 c.if-not-legal.false) c.after-position.ensures c.cost.ensures
    (let sum = c.in_ok-total.ensures in omega arith)

pub returns-in_err-finish-clause-none : goal.returns-in_err-finish-clause-none
returns-in_err-finish-clause-none c =
    rw c.from_residual-in_err-finish.ensures
    (bare_no_plan (game_of c.args.game.now) c.args.steps.now c.loop-step.step-index c.loop-step.position c.loop-step.total c.loop-step.invariant c.loop-step-test.false c.in_err-finish.ensures.bare)
