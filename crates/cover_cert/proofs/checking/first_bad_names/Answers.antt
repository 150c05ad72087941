use Rattle.std.proofs.Common.{sym, arith}
use Rattle.comp_graph.specs.Games.{game_of}
use Rattle.cover_cert.specs.CoverTable.{NamesHold}
use Rattle.potential_cert.proofs.Places.{index_at}
use Rattle.cert_checker.proofs.RowTests.{each_more}
use Rattle.cert_checker.proofs.Checked.{each_row, first_without}
use Rattle.cover_cert.proofs.checking.first_bad_names.Goals as goal

pub names_hold-requires-clause-sound : goal.names_hold-requires-clause-sound
names_hold-requires-clause-sound c =
    let r = c.index-rows-k.result in
    let at = index_at r r c.loop-k.k c.args.rows.now c.loop-k-test.true (sym c.index-rows-k.is) in
    c.requires.sound c.loop-k.k r at

pub returns-then-not-names_hold : goal.returns-then-not-names_hold
returns-then-not-names_hold c =
    let r = c.index-rows-k.result in
    let at = index_at r r c.loop-k.k c.args.rows.now c.loop-k-test.true (sym c.index-rows-k.is) in
    first_without (NamesHold (game_of c.args.game.now) c.args.rows.now) c.args.rows.now c.loop-k.k r at (λ h. let tested = c.names_hold.ensures.1 h in let untrue = c.if-not-names_hold.true in grind arith) c.loop-k.invariant

pub loop-k-preserved : goal.loop-k-preserved
loop-k-preserved c =
    let r = c.index-rows-k.result in
    let at = index_at r r c.loop-k.k c.args.rows.now c.loop-k-test.true (sym c.index-rows-k.is) in
    each_more (NamesHold (game_of c.args.game.now) c.args.rows.now) c.args.rows.now c.loop-k.k r at (c.names_hold.ensures.0 c.if-not-names_hold.false) c.loop-k.invariant

pub returns : goal.returns
returns c = each_row (NamesHold (game_of c.args.game.now) c.args.rows.now) c.args.rows.now c.loop-k.k c.loop-k-test.false c.loop-k.invariant
