use Rattle.std.proofs.Common.{◌-◌, refl, sym, ap, arith}
use Rattle.std.specs.Ordering.{is_lt}
use Rattle.potential_cert.proofs.Places.{index_at}
use Rattle.potential_cert.proofs.RowSearch.{less_precedes}
use Rattle.cert_checker.proofs.Checked.{rise_more, rise_end}
use Rattle.window_cert.proofs.PartLaws.{not_rising, no_test}
use Rattle.window_cert.proofs.parts.are_rising.Goals as goal

pub returns-in-Equal : goal.returns-in-Equal
returns-in-Equal c =
    let q = c.index-rows-k.result in
    let r = c.index-rows-k-in-rows.result in
    let some = c.rows.auto.k in
    let less = c.rows-test.true in
    let at_q = index_at q q (c.rows.k - 1) c.args.rows.now (omega arith) (sym c.index-rows-k.is) in
    let at_r = index_at r r c.rows.k c.args.rows.now (omega arith) (sym c.index-rows-k-in-rows.is) in
    no_test (not_rising c.args.rows.now c.rows.k q r c.order.result some at_q at_r c.order.ensures.words (ap is_lt c.in-Equal.is) c.rows.invariant)

pub returns-in-Greater : goal.returns-in-Greater
returns-in-Greater c =
    let q = c.index-rows-k.result in
    let r = c.index-rows-k-in-rows.result in
    let some = c.rows.auto.k in
    let less = c.rows-test.true in
    let at_q = index_at q q (c.rows.k - 1) c.args.rows.now (omega arith) (sym c.index-rows-k.is) in
    let at_r = index_at r r c.rows.k c.args.rows.now (omega arith) (sym c.index-rows-k-in-rows.is) in
    no_test (not_rising c.args.rows.now c.rows.k q r c.order.result some at_q at_r c.order.ensures.words (ap is_lt c.in-Greater.is) c.rows.invariant)

pub rows-preserved : goal.rows-preserved
rows-preserved c =
    let q = c.index-rows-k.result in
    let r = c.index-rows-k-in-rows.result in
    let some = c.rows.auto.k in
    let less = c.rows-test.true in
    let at_q = index_at q q (c.rows.k - 1) c.args.rows.now (omega arith) (sym c.index-rows-k.is) in
    let at_r = index_at r r c.rows.k c.args.rows.now (omega arith) (sym c.index-rows-k-in-rows.is) in
    rise_more c.args.rows.now c.rows.k q r some at_q at_r (less_precedes q.position r.position c.order.result c.order.ensures.words c.in-Less.is) c.rows.invariant

pub returns : goal.returns
returns c = (λ _. rise_end c.args.rows.now c.rows.k c.rows-test.false c.rows.invariant, λ _. refl)
