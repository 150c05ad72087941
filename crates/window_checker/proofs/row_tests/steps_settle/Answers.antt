use Rattle.std.proofs.Common.{false, refl}
use Rattle.comp_graph.specs.Games.{game_of}
use Rattle.normal_steps.specs.declared.step.Step.TheVariants.{Work, Drop, Spill}
use Rattle.window_steps.specs.Sets.{window_of}
use Rattle.window_checker.specs.Readiness.{StepSettlesIn}
use Rattle.window_checker.proofs.RowTests.{apart, each_step}
use Rattle.window_checker.proofs.row_tests.steps_settle.Goals as goal

pub returns-then-not-works_settle : goal.returns-then-not-works_settle
returns-then-not-works_settle c =
    let exact = c.step_sets-sets.ensures.exact in (
      λ h. absurd (apart false h refl),
      λ all. absurd (apart c.works_settle.result (c.works_settle.ensures.1 (λ v m. all (Work v) ((exact.worked v).0 m))) c.if-not-works_settle.true),
    )

pub returns-then-not-drops_settle : goal.returns-then-not-drops_settle
returns-then-not-drops_settle c =
    let exact = c.step_sets-sets.ensures.exact in (
      λ h. absurd (apart false h refl),
      λ all. absurd (apart c.drops_settle.result (c.drops_settle.ensures.1 (λ v m. all (Drop v) ((exact.dropped v).0 m))) c.if-not-drops_settle.true),
    )

pub returns : goal.returns
returns c =
    let exact = c.step_sets-sets.ensures.exact in
    let sets = c.step_sets-sets.result in (
      λ h. each_step (game_of c.args.game.now) (window_of c.args.window.now) c.args.row.now.position sets.works sets.drops sets.spills exact
          (StepSettlesIn c.args.game.now c.args.window.now c.args.table.now c.args.row.now)
          (c.works_settle.ensures.0 c.if-not-works_settle.false) (c.drops_settle.ensures.0 c.if-not-drops_settle.false) (c.spills_settle.ensures.0 h),
      λ all. c.spills_settle.ensures.1 (λ v m. all (Spill v) ((exact.spilled v).0 m)),
    )
