use Rattle.std.proofs.Common.{◌+◌, ◌-◌, ◌/◌, sym, arith}
use Rattle.potential_cert.proofs.Places.{index_at}
use Rattle.potential_cert.proofs.RowSearch.{between_all, between_above, between_below, less_precedes, greater_precedes, none_between}
use Rattle.potential_cert.proofs.row_search.row_place.Goals as goal

pub loop-low-init : goal.loop-low-init
loop-low-init c = between_all c.args.rows.now c.args.position.now

pub loop-low-preserved-in-Less : goal.loop-low-preserved-in-Less
loop-low-preserved-in-Less c =
    let p = c.args.position.now in
    let r = c.index-rows-middle.result in
    let within = c.loop-low.invariant.within in
    let less = c.loop-low-test.true in
    let middle = c.loop-low.low + (c.loop-low.high - c.loop-low.low) / 2 in
    let at = index_at r r middle c.args.rows.now (omega arith) (sym c.index-rows-middle.is) in
    between_above c.args.rows.now c.requires.rise p c.loop-low.low c.loop-low.high middle r at (omega arith) (less_precedes r.position p c.order.result c.order.ensures.words c.in-Less.is) c.loop-low.invariant

pub loop-low-preserved : goal.loop-low-preserved
loop-low-preserved c =
    let p = c.args.position.now in
    let r = c.index-rows-middle.result in
    let within = c.loop-low.invariant.within in
    let less = c.loop-low-test.true in
    let middle = c.loop-low.low + (c.loop-low.high - c.loop-low.low) / 2 in
    let at = index_at r r middle c.args.rows.now (omega arith) (sym c.index-rows-middle.is) in
    between_below c.args.rows.now c.requires.rise p c.loop-low.low c.loop-low.high middle r at (omega arith) (greater_precedes r.position p c.order.result c.order.ensures.words c.in-Greater.is) c.loop-low.invariant

pub returns-in-Equal-clause-some : goal.returns-in-Equal-clause-some
returns-in-Equal-clause-some c =
    let r = c.index-rows-middle.result in
    let within = c.loop-low.invariant.within in
    let less = c.loop-low-test.true in
    let middle = c.loop-low.low + (c.loop-low.high - c.loop-low.low) / 2 in
    let at = index_at r r middle c.args.rows.now (omega arith) (sym c.index-rows-middle.is) in
    (r, at, c.order.ensures.equal.0 c.in-Equal.is)

pub returns-clause-none : goal.returns-clause-none
returns-clause-none c = none_between c.args.rows.now c.args.position.now c.loop-low.low c.loop-low.high c.loop-low-test.false c.loop-low.invariant
