use Rattle.std.proofs.Common.{sym, arith}
use Rattle.window_checker.specs.Readiness.{StepsSettleIn}
use Rattle.potential_cert.proofs.Places.{index_at}
use Rattle.cert_checker.proofs.RowTests.{each_more}
use Rattle.cert_checker.proofs.Checked.{each_row, first_without}
use Rattle.window_checker.proofs.row_order.first_bad_steps.Goals as goal

pub returns-then-not-steps_settle : goal.returns-then-not-steps_settle
returns-then-not-steps_settle c =
    let r = c.index-rows-k.result in
    let at = index_at r r c.loop-k.k c.args.table.now.rows.now c.loop-k-test.true (sym c.index-rows-k.is) in
    first_without (StepsSettleIn c.args.game.now c.args.window.now c.args.table.now) c.args.table.now.rows.now c.loop-k.k r at (λ h. let tested = c.steps_settle.ensures.1 h in let untrue = c.if-not-steps_settle.true in grind arith) c.loop-k.invariant

pub loop-k-preserved : goal.loop-k-preserved
loop-k-preserved c =
    let r = c.index-rows-k.result in
    let at = index_at r r c.loop-k.k c.args.table.now.rows.now c.loop-k-test.true (sym c.index-rows-k.is) in
    each_more (StepsSettleIn c.args.game.now c.args.window.now c.args.table.now) c.args.table.now.rows.now c.loop-k.k r at (c.steps_settle.ensures.0 c.if-not-steps_settle.false) c.loop-k.invariant

pub returns : goal.returns
returns c = each_row (StepsSettleIn c.args.game.now c.args.window.now c.args.table.now) c.args.table.now.rows.now c.loop-k.k c.loop-k-test.false c.loop-k.invariant
