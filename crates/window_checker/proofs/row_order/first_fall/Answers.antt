use Rattle.std.proofs.Common.{◌-◌, sym, ap, arith}
use Rattle.std.specs.Ordering.{is_lt}
use Rattle.potential_cert.proofs.Places.{index_at}
use Rattle.potential_cert.proofs.RowSearch.{less_precedes}
use Rattle.cert_checker.proofs.Checked.{rise_more, rise_end, first_fall_at, not_less}
use Rattle.window_checker.proofs.row_order.first_fall.Goals as goal

pub returns-in-Equal : goal.returns-in-Equal
returns-in-Equal c =
    let q = c.index-rows-k.result in
    let r = c.index-rows-k-in-loop-k.result in
    let some = c.loop-k.auto.k in
    let less = c.loop-k-test.true in
    let at_q = index_at q q (c.loop-k.k - 1) c.args.rows.now (omega arith) (sym c.index-rows-k.is) in
    let at_r = index_at r r c.loop-k.k c.args.rows.now (omega arith) (sym c.index-rows-k-in-loop-k.is) in
    let words = c.order.ensures.words in
    first_fall_at c.args.rows.now c.loop-k.k q r some at_q at_r (not_less q.position r.position c.order.result words (ap is_lt c.in-Equal.is)) c.loop-k.invariant

pub returns-in-Greater : goal.returns-in-Greater
returns-in-Greater c =
    let q = c.index-rows-k.result in
    let r = c.index-rows-k-in-loop-k.result in
    let some = c.loop-k.auto.k in
    let less = c.loop-k-test.true in
    let at_q = index_at q q (c.loop-k.k - 1) c.args.rows.now (omega arith) (sym c.index-rows-k.is) in
    let at_r = index_at r r c.loop-k.k c.args.rows.now (omega arith) (sym c.index-rows-k-in-loop-k.is) in
    let words = c.order.ensures.words in
    first_fall_at c.args.rows.now c.loop-k.k q r some at_q at_r (not_less q.position r.position c.order.result words (ap is_lt c.in-Greater.is)) c.loop-k.invariant

pub loop-k-preserved : goal.loop-k-preserved
loop-k-preserved c =
    let q = c.index-rows-k.result in
    let r = c.index-rows-k-in-loop-k.result in
    let some = c.loop-k.auto.k in
    let less = c.loop-k-test.true in
    let at_q = index_at q q (c.loop-k.k - 1) c.args.rows.now (omega arith) (sym c.index-rows-k.is) in
    let at_r = index_at r r c.loop-k.k c.args.rows.now (omega arith) (sym c.index-rows-k-in-loop-k.is) in
    let words = c.order.ensures.words in
    rise_more c.args.rows.now c.loop-k.k q r some at_q at_r (less_precedes q.position r.position c.order.result words c.in-Less.is) c.loop-k.invariant

pub returns : goal.returns
returns c = rise_end c.args.rows.now c.loop-k.k c.loop-k-test.false c.loop-k.invariant
