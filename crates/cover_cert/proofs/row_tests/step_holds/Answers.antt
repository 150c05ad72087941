use Rattle.std.proofs.Common.{◌≡◌, ◌+◌, sym, ap, ◌∙◌, subst, inl, inr, refl, arith}
use Rattle.comp_graph.specs.Games.{game_of}
use Rattle.normal_steps.specs.Steps.{stepped, step_cost}
use Rattle.forced_bounds.specs.Floor.{floor}
use Rattle.potential_cert.specs.Table.{HasRowWithin}
use Rattle.cert_checker.proofs.RowTests.{is_within_true}
use Rattle.cover_cert.specs.CoverTable.{StepHolds, plain_rows}
use Rattle.cover_cert.proofs.row_tests.step_holds.Goals as goal

pub returns-then-bound-paid : goal.returns-then-bound-paid
returns-then-bound-paid c =
    let g = game_of c.args.game.now in
    let own = ap (λ r. r.cost) c.row.view_is in
    let step = c.cost.ensures ∙ ap (λ r. step_cost g r.position c.args.step) c.row.view_is in
    (λ _. inr (let low = c.if-bound-paid.true in omega arith), λ _. refl)

pub returns-then-has_row_within : goal.returns-then-has_row_within
returns-then-has_row_within c =
    let g = game_of c.args.game.now in
    let there = c.after-there.ensures ∙ ap (λ r. stepped g r.position c.args.step) c.row.view_is in
    let own = ap (λ r. r.cost) c.row.view_is in
    let step = c.cost.ensures ∙ ap (λ r. step_cost g r.position c.args.step) c.row.view_is in
    let paid : c.row.inside.cost + c.cost.result ≡ c.args.row.now.cost + step_cost g c.args.row.now.position c.args.step = omega arith in
    let has = c.has_row_within.ensures.0 c.if-has_row_within.true in (
      λ _. inl (subst (λ n. HasRowWithin (plain_rows c.args.rows.now) (stepped g c.args.row.now.position c.args.step) n) paid (subst (λ p. HasRowWithin (plain_rows c.args.rows.now) p (c.row.inside.cost + c.cost.result)) there has)),
      λ _. c.if-has_row_within.true,
    )

pub returns-else-has_row_within : goal.returns-else-has_row_within
returns-else-has_row_within c =
    let g = game_of c.args.game.now in
    let there = c.after-there.ensures ∙ ap (λ r. stepped g r.position c.args.step) c.row.view_is in
    let own = ap (λ r. r.cost) c.row.view_is in
    let step = c.cost.ensures ∙ ap (λ r. step_cost g r.position c.args.step) c.row.view_is in
    let paid : c.row.inside.cost + c.cost.result ≡ c.args.row.now.cost + step_cost g c.args.row.now.position c.args.step = omega arith in
    let least = c.floor.ensures.value ∙ ap (floor g) there in
    is_within_true _ _ (StepHolds g c.args.rows.now c.args.bound c.args.row.now c.args.step) (
      λ few. inr (omega arith),
      λ holds. elim holds [
        | inl has ↦ absurd (
            let back = subst (λ p. HasRowWithin (plain_rows c.args.rows.now) p (c.row.inside.cost + c.cost.result)) (sym there) (subst (λ n. HasRowWithin (plain_rows c.args.rows.now) (stepped g c.args.row.now.position c.args.step) n) (sym paid) has) in
            let tested = c.has_row_within.ensures.1 back in
            let untrue = c.if-has_row_within.false in
            grind arith)
        | inr few ↦ omega arith
      ],
    )
