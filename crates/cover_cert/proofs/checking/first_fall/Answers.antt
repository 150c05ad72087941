use Rattle.std.proofs.Common.{◌≡◌, ◌-◌, sym, ap, subst, arith}
use Rattle.std.specs.Ordering.{is_lt}
use Rattle.pebble_rules.specs.Positions.{position_order}
use Rattle.potential_cert.proofs.Places.{index_at}
use Rattle.potential_cert.proofs.RowSearch.{less_precedes}
use Rattle.cert_checker.proofs.Checked.{rise_more, rise_end, first_fall_at, not_less}
use Rattle.cover_cert.specs.CoverTable.{plain, plain_rows}
use Rattle.cover_cert.proofs.Sorted.{at_map, same_length}
use Rattle.cover_cert.proofs.checking.first_fall.Goals as goal

pub returns-in-Equal : goal.returns-in-Equal
returns-in-Equal c =
    let q = c.index-rows-k.result in
    let r = c.index-rows-k-in-loop-k.result in
    let some = c.loop-k.auto.k in
    let less = c.loop-k-test.true in
    let at_q = index_at q q (c.loop-k.k - 1) c.args.rows.now (omega arith) (sym c.index-rows-k.is) in
    let at_r = index_at r r c.loop-k.k c.args.rows.now (omega arith) (sym c.index-rows-k-in-loop-k.is) in
    let words = subst (λ q. c.order.result ≡ position_order q.position r.position) c.low.view_is
    (subst (λ r. c.order.result ≡ position_order c.low.inside.position r.position) c.high.view_is c.order.ensures.words) in
    first_fall_at (plain_rows c.args.rows.now) c.loop-k.k (plain q) (plain r) some (at_map plain q (c.loop-k.k - 1) c.args.rows.now at_q) (at_map plain r c.loop-k.k c.args.rows.now at_r) (not_less q.position r.position c.order.result words (ap is_lt c.in-Equal.is)) c.loop-k.invariant

pub returns-in-Greater : goal.returns-in-Greater
returns-in-Greater c =
    let q = c.index-rows-k.result in
    let r = c.index-rows-k-in-loop-k.result in
    let some = c.loop-k.auto.k in
    let less = c.loop-k-test.true in
    let at_q = index_at q q (c.loop-k.k - 1) c.args.rows.now (omega arith) (sym c.index-rows-k.is) in
    let at_r = index_at r r c.loop-k.k c.args.rows.now (omega arith) (sym c.index-rows-k-in-loop-k.is) in
    let words = subst (λ q. c.order.result ≡ position_order q.position r.position) c.low.view_is
    (subst (λ r. c.order.result ≡ position_order c.low.inside.position r.position) c.high.view_is c.order.ensures.words) in
    first_fall_at (plain_rows c.args.rows.now) c.loop-k.k (plain q) (plain r) some (at_map plain q (c.loop-k.k - 1) c.args.rows.now at_q) (at_map plain r c.loop-k.k c.args.rows.now at_r) (not_less q.position r.position c.order.result words (ap is_lt c.in-Greater.is)) c.loop-k.invariant

pub loop-k-preserved : goal.loop-k-preserved
loop-k-preserved c =
    let q = c.index-rows-k.result in
    let r = c.index-rows-k-in-loop-k.result in
    let some = c.loop-k.auto.k in
    let less = c.loop-k-test.true in
    let at_q = index_at q q (c.loop-k.k - 1) c.args.rows.now (omega arith) (sym c.index-rows-k.is) in
    let at_r = index_at r r c.loop-k.k c.args.rows.now (omega arith) (sym c.index-rows-k-in-loop-k.is) in
    let words = subst (λ q. c.order.result ≡ position_order q.position r.position) c.low.view_is
    (subst (λ r. c.order.result ≡ position_order c.low.inside.position r.position) c.high.view_is c.order.ensures.words) in
    rise_more (plain_rows c.args.rows.now) c.loop-k.k (plain q) (plain r) some (at_map plain q (c.loop-k.k - 1) c.args.rows.now at_q) (at_map plain r c.loop-k.k c.args.rows.now at_r) (less_precedes q.position r.position c.order.result words c.in-Less.is) c.loop-k.invariant

pub returns : goal.returns
returns c =
    let many = same_length plain c.args.rows.now in
    let all = c.loop-k-test.false in
    rise_end (plain_rows c.args.rows.now) c.loop-k.k (omega arith) c.loop-k.invariant
