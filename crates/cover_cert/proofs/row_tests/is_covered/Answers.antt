use Rattle.std.proofs.Common.{sym, ap, ◌∙◌, subst, arith}
use Rattle.comp_graph.specs.Games.{game_of}
use Rattle.normal_steps.specs.Steps.{stepped, step_cost}
use Rattle.cover_cert.specs.Covers.{Covers}
use Rattle.cover_cert.specs.CoverTable.{IsCoveredBy}
use Rattle.potential_cert.proofs.Places.{index_at, at_below}
use Rattle.cert_checker.proofs.RowTests.{is_within_true}
use Rattle.cover_cert.proofs.RowTests.{covered_by, not_covered}
use Rattle.cover_cert.proofs.row_tests.is_covered.Goals.{then-not-can_be_named-via-then-not-can_be_named, then-not-can_be_named-via-else-not-can_be_named+then-number-rows}
use Rattle.cover_cert.proofs.row_tests.is_covered.Goals as goal

pub returns-then-not-can_be_named : goal.returns-then-not-can_be_named
returns-then-not-can_be_named c = (
  λ h. absurd (grind arith),
  λ is. absurd (elim c.then-not-can_be_named.branch [
    | then-not-can_be_named-via-then-not-can_be_named w ↦ let can = c.can_be_named.ensures.1 is.can_be_named in let cannot = w.if-not-can_be_named.true in grind arith
    | then-not-can_be_named-via-else-not-can_be_named+then-number-rows w ↦ let below = at_below is.row c.args.number c.args.rows.now is.at in omega (arith, w.if-number-rows.true)
  ]),
)

pub returns-then-covers : goal.returns-then-covers
returns-then-covers c =
    let g = game_of c.args.game.now in
    let by = c.index-rows-number.result in
    let at = index_at by by c.args.number c.args.rows.now c.if-number-rows.false (sym c.index-rows-number.is) in
    let there = c.after-there.ensures ∙ ap (λ r. stepped g r.position c.args.step) c.row.view_is in
    let covers = subst (λ p. Covers g by.position p) there (subst (λ r. Covers g r.position c.after-there.result) c.by.view_is (c.covers.ensures.0 c.if-covers.true)) in
    let costs = covered_by g c.args.rows.now c.args.row.now c.args.step c.args.number by at (c.can_be_named.ensures.0 c.if-not-can_be_named.false) covers in
    let own = ap (λ r. r.cost) c.row.view_is in
    let others = ap (λ r. r.cost) c.by.view_is in
    let step = c.cost.ensures ∙ ap (λ r. step_cost g r.position c.args.step) c.row.view_is in
    is_within_true _ _ (IsCoveredBy g c.args.rows.now c.args.row.now c.args.step c.args.number) (λ few. costs.0 (omega arith), λ is. let few = costs.1 is in omega arith)

pub returns-else-covers : goal.returns-else-covers
returns-else-covers c =
    let g = game_of c.args.game.now in
    let by = c.index-rows-number.result in
    let at = index_at by by c.args.number c.args.rows.now c.if-number-rows.false (sym c.index-rows-number.is) in
    let there = c.after-there.ensures ∙ ap (λ r. stepped g r.position c.args.step) c.row.view_is in
    let fails : Covers g by.position (stepped g c.args.row.now.position c.args.step) → ⊥ = λ covers.
    let tested = c.covers.ensures.1 (subst (λ r. Covers g r.position c.after-there.result) (sym c.by.view_is) (subst (λ p. Covers g by.position p) (sym there) covers)) in
    let untrue = c.if-covers.false in
    grind arith in
    (λ h. absurd (let untrue = c.if-covers.false in grind arith), λ is. absurd (not_covered g c.args.rows.now c.args.row.now c.args.step c.args.number by at fails is))
