use Rattle.std.proofs.Common.{sym, subst, arith}
use Rattle.comp_graph.specs.Games.{game_of}
use Rattle.normal_steps.specs.Sound.{IsSound}
use Rattle.potential_cert.proofs.Places.{index_at}
use Rattle.cert_checker.proofs.RowTests.{each_more}
use Rattle.cert_checker.proofs.Checked.{each_row, first_without}
use Rattle.cover_cert.proofs.checking.first_unsound.Goals as goal

pub returns-then-not-is_sound : goal.returns-then-not-is_sound
returns-then-not-is_sound c =
    let g = game_of c.args.game.now in
    let r = c.index-rows-k.result in
    let at = index_at r r c.loop-k.k c.args.rows.now c.loop-k-test.true (sym c.index-rows-k.is) in
    first_without (λ r. IsSound g r.position) c.args.rows.now c.loop-k.k r at
    (λ h. let tested = c.is_sound.ensures.1 (subst (λ r. IsSound g r.position) (sym c.row.view_is) h) in let untrue = c.if-not-is_sound.true in grind arith) c.loop-k.invariant

pub loop-k-preserved : goal.loop-k-preserved
loop-k-preserved c =
    let g = game_of c.args.game.now in
    let r = c.index-rows-k.result in
    let at = index_at r r c.loop-k.k c.args.rows.now c.loop-k-test.true (sym c.index-rows-k.is) in
    each_more (λ r. IsSound g r.position) c.args.rows.now c.loop-k.k r at (subst (λ r. IsSound g r.position) c.row.view_is (c.is_sound.ensures.0 c.if-not-is_sound.false)) c.loop-k.invariant

pub returns : goal.returns
returns c = each_row (λ r. IsSound (game_of c.args.game.now) r.position) c.args.rows.now c.loop-k.k c.loop-k-test.false c.loop-k.invariant
