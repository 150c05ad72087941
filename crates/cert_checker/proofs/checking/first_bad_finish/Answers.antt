use Rattle.std.proofs.Common.{sym, arith}
use Rattle.comp_graph.specs.Games.{game_of}
use Rattle.potential_cert.specs.Table.{FinishHolds}
use Rattle.potential_cert.proofs.Places.{index_at}
use Rattle.cert_checker.proofs.RowTests.{each_more}
use Rattle.cert_checker.proofs.Checked.{each_row, first_without}
use Rattle.cert_checker.proofs.checking.first_bad_finish.Goals as goal

pub returns-then-not-finish_holds : goal.returns-then-not-finish_holds
returns-then-not-finish_holds c =
    let r = c.index-rows-k.result in
    let at = index_at r r c.loop-k.k c.args.rows.now c.loop-k-test.true (sym c.index-rows-k.is) in
    first_without (FinishHolds (game_of c.args.game.now) c.args.bound) c.args.rows.now c.loop-k.k r at (λ h. let tested = c.finish_holds.ensures.1 h in let untrue = c.if-not-finish_holds.true in grind arith) c.loop-k.invariant

pub loop-k-preserved : goal.loop-k-preserved
loop-k-preserved c =
    let r = c.index-rows-k.result in
    let at = index_at r r c.loop-k.k c.args.rows.now c.loop-k-test.true (sym c.index-rows-k.is) in
    each_more (FinishHolds (game_of c.args.game.now) c.args.bound) c.args.rows.now c.loop-k.k r at (c.finish_holds.ensures.0 c.if-not-finish_holds.false) c.loop-k.invariant

pub returns : goal.returns
returns c = each_row (FinishHolds (game_of c.args.game.now) c.args.bound) c.args.rows.now c.loop-k.k c.loop-k-test.false c.loop-k.invariant
