use Rattle.std.proofs.Common.{◌≤◌, length, sym, ap, ◌∙◌, subst, refl, arith}
use Rattle.comp_graph.specs.Vertices.{size}
use Rattle.comp_graph.specs.Games.{game_of}
use Rattle.comp_graph.proofs.GraphLaws.{IsDag-dag_of}
use Rattle.normal_steps.specs.LegalSteps.{AreLegalSteps}
use Rattle.normal_steps.specs.StepTests.{legal_steps}
use Rattle.cover_cert.specs.CoverTable.{IsNamed}
use Rattle.potential_cert.proofs.Places.{at_below}
use Rattle.cover_cert.proofs.RowTests.{StepsSoFar, same_legal, few_legal, from_at, legal_at, steps_begin, steps_more, step_bad, steps_end}
use Rattle.cover_cert.proofs.row_tests.steps_hold.Goals.{else-not-is_named-via-then-not-is_named+else-not-step_holds, else-not-is_named-via-else-not-is_named}
use Rattle.cover_cert.proofs.row_tests.steps_hold.Goals as goal

pub loop-step-init : goal.loop-step-init
loop-step-init c =
    let g = game_of c.args.game.now in
    let r = c.args.row.now in
    let exact = subst (λ r. AreLegalSteps g r.position c.new-step-items.result) c.row.view_is c.new-step-items.ensures.exact in
    let same = same_legal g (IsDag-dag_of c.args.game.now.graph c.requires.game.valid) r.position c.requires.sound c.new-step-items.result exact in
    record { can_next = tt; is_finite = tt; steps = steps_begin g c.args.rows.now c.args.bound r c.into_iter-step-iterator.result (c.into_iter-step-iterator.ensures.into_iter_gives ∙ same) }

pub step_holds-requires-clause-step : goal.step_holds-requires-clause-step
step_holds-requires-clause-step c =
    let g = game_of c.args.game.now in
    let r = c.args.row.now in
    let is = subst (λ ss. StepsSoFar g c.args.rows.now c.args.bound r ss c.loop-step.place) c.in-Some.ensures.steps c.loop-step.invariant.steps in
    legal_at g (IsDag-dag_of c.args.game.now.graph c.requires.game.valid) r.position c.requires.sound c.in-Some.step c.loop-step.place
    (from_at c.loop-step.place c.in-Some.step c.next.new.self (legal_steps g r.position) is.from)

pub returns-then-not-step_holds : goal.returns-then-not-step_holds
returns-then-not-step_holds c =
    let g = game_of c.args.game.now in
    let r = c.args.row.now in
    let names_are = c.deref.ensures.value ∙ ap (λ r. r.names) c.row.view_is in
    let is = subst (λ ss. StepsSoFar g c.args.rows.now c.args.bound r ss c.loop-step.place) c.in-Some.ensures.steps c.loop-step.invariant.steps in (
      λ h. absurd (grind arith),
      λ hold. absurd (step_bad g c.args.rows.now c.args.bound r c.in-Some.step c.next.new.self c.loop-step.place is
          (λ named. let tested = c.is_named.ensures.1 (subst (λ ns. IsNamed ns c.loop-step.place) (sym names_are) named) in let untrue = c.if-not-is_named.true in grind arith)
          (λ holds. let tested = c.step_holds.ensures.1 holds in let untrue = c.if-not-step_holds.true in grind arith) hold),
    )

pub overflow_add-place : goal.overflow_add-place
overflow_add-place c =
    let g = game_of c.args.game.now in
    let r = c.args.row.now in
    let is = subst (λ ss. StepsSoFar g c.args.rows.now c.args.bound r ss c.loop-step.place) c.in-Some.ensures.steps c.loop-step.invariant.steps in
    let below = at_below c.in-Some.step c.loop-step.place (legal_steps g r.position) (from_at c.loop-step.place c.in-Some.step c.next.new.self (legal_steps g r.position) is.from) in
    let exact = subst (λ r. AreLegalSteps g r.position c.new-step-items.result) c.row.view_is c.new-step-items.ensures.exact in
    let few = few_legal c.args.game.now c.requires.game r.position c.requires.sound c.new-step-items.result exact (subst (λ r. size r.position.red ≤ 64 → length c.new-step-items.result ≤ 384) c.row.view_is c.new-step-items.ensures.few) in
    omega arith

pub loop-step-preserved : goal.loop-step-preserved
loop-step-preserved c =
    let g = game_of c.args.game.now in
    let r = c.args.row.now in
    let names_are = c.deref.ensures.value ∙ ap (λ r. r.names) c.row.view_is in
    let is = subst (λ ss. StepsSoFar g c.args.rows.now c.args.bound r ss c.loop-step.place) c.in-Some.ensures.steps c.loop-step.invariant.steps in
    record {
      can_next = tt;
      is_finite = tt;
      steps = steps_more g c.args.rows.now c.args.bound r c.in-Some.step c.next.new.self c.loop-step.place is (λ none. elim c.else-not-is_named.branch [
        | else-not-is_named-via-then-not-is_named+else-not-step_holds w ↦ w.step_holds.ensures.0 w.if-not-step_holds.false
        | else-not-is_named-via-else-not-is_named w ↦ absurd (none (subst (λ ns. IsNamed ns c.loop-step.place) names_are (c.is_named.ensures.0 w.if-not-is_named.false)))
      ]);
    }

pub returns : goal.returns
returns c =
    let g = game_of c.args.game.now in
    let r = c.args.row.now in
    let is = subst (λ ss. StepsSoFar g c.args.rows.now c.args.bound r ss c.loop-step.place) c.in-None.ensures.steps.0 c.loop-step.invariant.steps in
    (λ _. steps_end g c.args.rows.now c.args.bound r c.loop-step.place is, λ _. refl)
