use Rattle.std.proofs.Common.{length, ap, sym, arith}
use Rattle.comp_graph.specs.Games.{game_of}
use Rattle.potential_cert.proofs.Places.{index_at, at_in}
use Rattle.cover_cert.proofs.Supports.{rows_begin, rows_next, rows_end}
use Rattle.cover_cert.proofs.supporting.cover_support.Goals as goal

pub with_offers_of_row-least-requires-clause-row : goal.with_offers_of_row-least-requires-clause-row
with_offers_of_row-least-requires-clause-row c =
    let r = c.index-rows-k.result in
    at_in r c.loop-k.k c.args.rows.now (index_at r r c.loop-k.k c.args.rows.now c.loop-k-test.true (sym c.index-rows-k.is))

pub with_offers_of_row-least-requires-clause-sound : goal.with_offers_of_row-least-requires-clause-sound
with_offers_of_row-least-requires-clause-sound c =
    let r = c.index-rows-k.result in
    c.requires.sound r (at_in r c.loop-k.k c.args.rows.now (index_at r r c.loop-k.k c.args.rows.now c.loop-k-test.true (sym c.index-rows-k.is)))

pub loop-k-init : goal.loop-k-init
loop-k-init c = rows_begin (game_of c.args.game.now) c.args.rows.now c.args.cost

pub loop-k-preserved : goal.loop-k-preserved
loop-k-preserved c =
    let r = c.index-rows-k.result in
    let at = index_at r r c.loop-k.k c.args.rows.now c.loop-k-test.true (sym c.index-rows-k.is) in
    rows_next (game_of c.args.game.now) c.args.rows.now c.args.cost c.loop-k.least c.with_offers_of_row-least.result c.loop-k.k r at c.loop-k.invariant c.with_offers_of_row-least.ensures

pub returns : goal.returns
returns c = rows_end (game_of c.args.game.now) c.args.rows.now c.args.cost c.loop-k.least c.loop-k.k
    (λ none. let many = ap length none in let tested = c.is_empty.ensures in let untrue = c.if-is_empty.false in grind arith) c.loop-k-test.false c.loop-k.invariant
