use Rattle.std.proofs.Common.{◌∙◌}
use Rattle.normal_steps.specs.declared.step.Step.TheVariants.{Spill}
use Rattle.window_checker.specs.Readiness.{StepSettlesIn}
use Rattle.window_checker.proofs.RowTests.{apart, one_more}
use Rattle.window_checker.proofs.row_tests.spills_settle.Goals as goal
use Rattle.window_checker.proofs.row_tests.spills_settle.Goals.{else-has-via-then-has+else-not-step_settles, else-has-via-else-has}

pub loop-v-preserved : goal.loop-v-preserved
loop-v-preserved c =
    one_more (λ u. StepSettlesIn c.args.game.now c.args.window.now c.args.table.now c.args.row.now (Spill u)) c.args.spills.now c.loop-v.v c.loop-v.invariant
    (λ member. elim c.else-has.branch [
      | else-has-via-then-has+else-not-step_settles w ↦ w.step_settles.ensures.0 w.if-not-step_settles.false
      | else-has-via-else-has w ↦ absurd (apart c.has.result (c.has.ensures.value ∙ member) w.if-has.false)
    ])
