use Rattle.std.proofs.Common.{sym, arith}
use Rattle.window_checker.specs.Readiness.{FinishReachesIn}
use Rattle.potential_cert.proofs.Places.{index_at}
use Rattle.cert_checker.proofs.RowTests.{each_more}
use Rattle.cert_checker.proofs.Checked.{each_row, first_without}
use Rattle.window_checker.proofs.row_order.first_bad_finish.Goals as goal

pub returns-then-not-finish_reaches : goal.returns-then-not-finish_reaches
returns-then-not-finish_reaches c =
    let r = c.index-rows-k.result in
    let at = index_at r r c.loop-k.k c.args.table.now.rows.now c.loop-k-test.true (sym c.index-rows-k.is) in
    first_without (FinishReachesIn c.args.game.now c.args.window.now c.args.table.now) c.args.table.now.rows.now c.loop-k.k r at (λ h. let tested = c.finish_reaches.ensures.1 h in let untrue = c.if-not-finish_reaches.true in grind arith) c.loop-k.invariant

pub loop-k-preserved : goal.loop-k-preserved
loop-k-preserved c =
    let r = c.index-rows-k.result in
    let at = index_at r r c.loop-k.k c.args.table.now.rows.now c.loop-k-test.true (sym c.index-rows-k.is) in
    each_more (FinishReachesIn c.args.game.now c.args.window.now c.args.table.now) c.args.table.now.rows.now c.loop-k.k r at (c.finish_reaches.ensures.0 c.if-not-finish_reaches.false) c.loop-k.invariant

pub returns : goal.returns
returns c = each_row (FinishReachesIn c.args.game.now c.args.window.now c.args.table.now) c.args.table.now.rows.now c.loop-k.k c.loop-k-test.false c.loop-k.invariant
