use Rattle.std.proofs.Common.{◌≡◌, sym, ap, ◌∙◌, refl, arith}
use Rattle.potential_cert.proofs.Places.{index_at}
use Rattle.cover_cert.proofs.RowTests.{none_more, free_row, no_free_row}
use Rattle.cover_cert.proofs.row_tests.has_free_row.Goals as goal

pub returns-then-row-eq0 : goal.returns-then-row-eq0
returns-then-row-eq0 c =
    let at = index_at c.row-item.result c.row-item.result c.loop-row.row-index c.args.rows.now c.loop-row-test.true (sym c.row-item.is) in
    (λ _. free_row c.args.rows.now c.loop-row.row-index c.row-item.result at (sym (ap (λ r. r.cost) c.row.view_is) ∙ c.if-row-eq0.true), λ _. refl)

pub loop-row-preserved : goal.loop-row-preserved
loop-row-preserved c =
    let at = index_at c.row-item.result c.row-item.result c.loop-row.row-index c.args.rows.now c.loop-row-test.true (sym c.row-item.is) in
    none_more (λ r. r.cost ≡ 0) c.args.rows.now c.loop-row.row-index c.row-item.result at (λ free. c.if-row-eq0.false (ap (λ r. r.cost) c.row.view_is ∙ free)) c.loop-row.invariant

pub returns : goal.returns
returns c = (λ h. absurd (grind arith), λ has. absurd (no_free_row c.args.rows.now c.loop-row.row-index c.loop-row-test.false c.loop-row.invariant has))
