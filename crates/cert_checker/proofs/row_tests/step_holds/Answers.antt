use Rattle.std.proofs.Common.{◌≡◌, ◌+◌, sym, ap, ◌∙◌, subst, inl, inr, refl, arith}
use Rattle.comp_graph.specs.Games.{game_of}
use Rattle.normal_steps.specs.Steps.{stepped, step_cost}
use Rattle.forced_bounds.specs.Floor.{floor}
use Rattle.potential_cert.specs.Table.{HasRowWithin, StepHolds}
use Rattle.cert_checker.proofs.RowTests.{is_within_true}
use Rattle.cert_checker.proofs.row_tests.step_holds.Goals as goal

pub returns-then-bound-paid : goal.returns-then-bound-paid
returns-then-bound-paid c = (λ _. inr (let step = c.cost.ensures in let low = c.if-bound-paid.true in omega arith), λ _. refl)

pub returns-then-has_row_within : goal.returns-then-has_row_within
returns-then-has_row_within c =
    let g = game_of c.args.game.now in
    let r = c.args.row.now in
    let paid : r.cost + c.cost.result ≡ r.cost + step_cost g r.position c.args.step = ap (λ n. r.cost + n) c.cost.ensures in
    let has = c.has_row_within.ensures.0 c.if-has_row_within.true in (
      λ _. inl (subst (HasRowWithin c.args.rows.now (stepped g r.position c.args.step)) paid (subst (λ p. HasRowWithin c.args.rows.now p (r.cost + c.cost.result)) c.after-there.ensures has)),
      λ _. c.if-has_row_within.true,
    )

pub returns-else-has_row_within : goal.returns-else-has_row_within
returns-else-has_row_within c =
    let g = game_of c.args.game.now in
    let r = c.args.row.now in
    let step = c.cost.ensures in
    let paid : r.cost + c.cost.result ≡ r.cost + step_cost g r.position c.args.step = ap (λ n. r.cost + n) step in
    let least = c.floor.ensures.value ∙ ap (floor g) c.after-there.ensures in
    is_within_true _ _ (StepHolds g c.args.rows.now c.args.bound r c.args.step) (
      λ few. inr (omega arith),
      λ holds. elim holds [
        | inl has ↦ absurd (
            let back = subst (λ p. HasRowWithin c.args.rows.now p (r.cost + c.cost.result)) (sym c.after-there.ensures) (subst (HasRowWithin c.args.rows.now (stepped g r.position c.args.step)) (sym paid) has) in
            let tested = c.has_row_within.ensures.1 back in
            let untrue = c.if-has_row_within.false in
            grind arith)
        | inr few ↦ omega arith
      ],
    )
