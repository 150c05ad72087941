use Rattle.std.proofs.Common.{inl, refl, subst, arith}
use Rattle.comp_graph.specs.Games.{game_of}
use Rattle.potential_cert.proofs.StepsLeft.{AreLeft, all_left, next_left, none_left}
use Rattle.potential_cert.specs.Table.{StepHolds}
use Rattle.cert_checker.proofs.row_tests.steps_hold.Goals as goal

pub loop-step-init : goal.loop-step-init
loop-step-init c =
    let g = game_of c.args.game.now in
    record {
      can_next = tt;
      is_finite = tt;
      left = all_left g c.args.row.now.position (StepHolds g c.args.rows.now c.args.bound c.args.row.now) c.new-step-items.result c.into_iter-step-iterator.result c.new-step-items.ensures.exact c.into_iter-step-iterator.ensures.into_iter_gives;
    }

pub step_holds-requires-clause-step : goal.step_holds-requires-clause-step
step_holds-requires-clause-step c =
    let g = game_of c.args.game.now in
    let left = subst (AreLeft g c.args.row.now.position (StepHolds g c.args.rows.now c.args.bound c.args.row.now)) c.in-Some.ensures.steps c.loop-step.invariant.left in
    left.legal c.in-Some.step (inl refl)

pub returns-then-not-step_holds : goal.returns-then-not-step_holds
returns-then-not-step_holds c =
    let g = game_of c.args.game.now in
    let left = subst (AreLeft g c.args.row.now.position (StepHolds g c.args.rows.now c.args.bound c.args.row.now)) c.in-Some.ensures.steps c.loop-step.invariant.left in (
      λ h. absurd (grind arith),
      λ hold. absurd (let tested = c.step_holds.ensures.1 (hold c.in-Some.step (left.legal c.in-Some.step (inl refl))) in let untrue = c.if-not-step_holds.true in grind arith),
    )

pub loop-step-preserved : goal.loop-step-preserved
loop-step-preserved c =
    let g = game_of c.args.game.now in
    let P = StepHolds g c.args.rows.now c.args.bound c.args.row.now in
    let left = subst (AreLeft g c.args.row.now.position P) c.in-Some.ensures.steps c.loop-step.invariant.left in
    record {
      can_next = tt;
      is_finite = tt;
      left = next_left g c.args.row.now.position P P c.in-Some.step c.next.new.self left (λ x holds. holds) (c.step_holds.ensures.0 c.if-not-step_holds.false);
    }

pub returns : goal.returns
returns c =
    let g = game_of c.args.game.now in
    let P = StepHolds g c.args.rows.now c.args.bound c.args.row.now in
    (λ _. none_left g c.args.row.now.position P c.loop-step.step-iterator c.loop-step.invariant.left c.in-None.ensures.steps.0, λ _. refl)
