use Rattle.std.proofs.Common.{◌≡◌, rules}
use Rattle.pebble_rules.specs.Positions.{position_order}
use Rattle.pebble_rules.proofs.Order.{order_equal}
use Rattle.pebble_rules.proofs.position.Position.order.Goals as goal

pub returns-clause-equal : goal.returns-clause-equal
returns-clause-equal c =
    let is : c.cmp.result ≡ position_order c.args.self.now c.args.other.now = search rules in
    order_equal c.args.self.now c.args.other.now c.cmp.result c.words.ensures.bounded c.words-2.ensures.bounded c.words-3.ensures.bounded c.words-4.ensures.bounded is
