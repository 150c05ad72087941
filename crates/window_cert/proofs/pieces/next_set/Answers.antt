use Rattle.std.proofs.Common.{arith}
use Rattle.window_cert.proofs.PieceLaws.{short_set, high_set, wide_enough}
use Rattle.window_cert.proofs.pieces.next_set.Goals as goal

pub returns-then-left-count : goal.returns-then-left-count
returns-then-left-count c = short_set c.args.vertices c.args.cursor.now (let left = c.left.ensures in let short = c.if-left-count.true in omega arith)

pub is_below-requires-clause-bounded : goal.is_below-requires-clause-bounded
is_below-requires-clause-bounded c = wide_enough c.args.vertices c.take_set-set.result c.requires c.take_set-set.ensures.below

pub returns-then-not-is_below : goal.returns-then-not-is_below
returns-then-not-is_below c =
    high_set c.args.vertices c.args.cursor.now c.take_set-set.new.cursor c.take_set-set.result c.take_set-set.ensures.below c.take_set-set.ensures.bytes
    (λ all. let is = c.is_below.ensures.1 all in let out = c.if-not-is_below.true in grind arith)
