use Rattle.std.proofs.Common.{◌≡◌, ◌+◌, ◌-◌, ◌/◌, sym, ap, ◌∙◌, subst, arith}
use Rattle.pebble_rules.specs.Positions.{position_order}
use Rattle.potential_cert.proofs.Places.{at_in, index_at}
use Rattle.potential_cert.proofs.RowSearch.{IsBetween, between_all, between_above, between_below, less_precedes, greater_precedes, none_between}
use Rattle.cover_cert.specs.CoverTable.{plain, plain_rows}
use Rattle.cover_cert.proofs.Sorted.{at_map, same_length}
use Rattle.cover_cert.proofs.row_tests.cover_row_cost.Goals as goal

pub loop-low-init : goal.loop-low-init
loop-low-init c =
    subst (IsBetween (plain_rows c.args.rows.now) c.args.position.now 0) (same_length plain c.args.rows.now) (between_all (plain_rows c.args.rows.now) c.args.position.now)

pub loop-low-preserved-in-Less : goal.loop-low-preserved-in-Less
loop-low-preserved-in-Less c =
    let p = c.args.position.now in
    let r = c.index-rows-middle.result in
    let within = c.loop-low.invariant.within in
    let many = same_length plain c.args.rows.now in
    let less = c.loop-low-test.true in
    let middle = c.loop-low.low + (c.loop-low.high - c.loop-low.low) / 2 in
    let at = index_at r r middle c.args.rows.now (omega arith) (sym c.index-rows-middle.is) in
    let words = subst (λ r. c.order.result ≡ position_order r.position p) c.row.view_is c.order.ensures.words in
    between_above (plain_rows c.args.rows.now) c.requires p c.loop-low.low c.loop-low.high middle (plain r) (at_map plain r middle c.args.rows.now at) (omega arith)
    (less_precedes r.position p c.order.result words c.in-Less.is) c.loop-low.invariant

pub loop-low-preserved : goal.loop-low-preserved
loop-low-preserved c =
    let p = c.args.position.now in
    let r = c.index-rows-middle.result in
    let within = c.loop-low.invariant.within in
    let many = same_length plain c.args.rows.now in
    let less = c.loop-low-test.true in
    let middle = c.loop-low.low + (c.loop-low.high - c.loop-low.low) / 2 in
    let at = index_at r r middle c.args.rows.now (omega arith) (sym c.index-rows-middle.is) in
    let words = subst (λ r. c.order.result ≡ position_order r.position p) c.row.view_is c.order.ensures.words in
    between_below (plain_rows c.args.rows.now) c.requires p c.loop-low.low c.loop-low.high middle (plain r) (at_map plain r middle c.args.rows.now at) (omega arith)
    (greater_precedes r.position p c.order.result words c.in-Greater.is) c.loop-low.invariant

pub returns-in-Equal-clause-some : goal.returns-in-Equal-clause-some
returns-in-Equal-clause-some c =
    let p = c.args.position.now in
    let r = c.index-rows-middle.result in
    let within = c.loop-low.invariant.within in
    let many = same_length plain c.args.rows.now in
    let less = c.loop-low-test.true in
    let middle = c.loop-low.low + (c.loop-low.high - c.loop-low.low) / 2 in
    let at = index_at r r middle c.args.rows.now (omega arith) (sym c.index-rows-middle.is) in
    let here = sym (ap (λ r. r.position) c.row.view_is) ∙ c.order.ensures.equal.0 c.in-Equal.is in
    let costs = ap (λ r. r.cost) c.row.view_is in
    (plain r, at_in (plain r) middle (plain_rows c.args.rows.now) (at_map plain r middle c.args.rows.now at), here, sym costs)

pub returns-clause-none : goal.returns-clause-none
returns-clause-none c = none_between (plain_rows c.args.rows.now) c.args.position.now c.loop-low.low c.loop-low.high c.loop-low-test.false c.loop-low.invariant
