use Rattle.std.proofs.Common.{sym, arith}
use Rattle.comp_graph.specs.Games.{game_of}
use Rattle.potential_cert.specs.Table.{StepsHold}
use Rattle.potential_cert.proofs.Places.{index_at}
use Rattle.cert_checker.proofs.RowTests.{each_more}
use Rattle.cert_checker.proofs.Checked.{each_row, first_without}
use Rattle.cert_checker.proofs.checking.first_bad_steps.Goals as goal

pub returns-then-not-steps_hold : goal.returns-then-not-steps_hold
returns-then-not-steps_hold c =
    let r = c.index-rows-k.result in
    let at = index_at r r c.loop-k.k c.args.rows.now c.loop-k-test.true (sym c.index-rows-k.is) in
    first_without (StepsHold (game_of c.args.game.now) c.args.rows.now c.args.bound) c.args.rows.now c.loop-k.k r at (λ h. let tested = c.steps_hold.ensures.1 h in let untrue = c.if-not-steps_hold.true in grind arith) c.loop-k.invariant

pub loop-k-preserved : goal.loop-k-preserved
loop-k-preserved c =
    let r = c.index-rows-k.result in
    let at = index_at r r c.loop-k.k c.args.rows.now c.loop-k-test.true (sym c.index-rows-k.is) in
    each_more (StepsHold (game_of c.args.game.now) c.args.rows.now c.args.bound) c.args.rows.now c.loop-k.k r at (c.steps_hold.ensures.0 c.if-not-steps_hold.false) c.loop-k.invariant

pub returns : goal.returns
returns c = each_row (StepsHold (game_of c.args.game.now) c.args.rows.now c.args.bound) c.args.rows.now c.loop-k.k c.loop-k-test.false c.loop-k.invariant
