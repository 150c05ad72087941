use Rattle.std.proofs.Common.{◌≡◌, ◌-◌, suc, ◌+◌, arith}
use Rattle.window_images.specs.Permutations.{renamings}
use Rattle.window_images.specs.LeastImages.{least_image}
use Rattle.window_images.proofs.Rounds.{first_round, next_round, stopped, last_round}
use Rattle.window_images.proofs.least.least_image.Goals as goal

pub loop-round-init : goal.loop-round-init
loop-round-init c = first_round (renamings c.args.permutations.now) c.args.position.now

pub returns-then-not-is_lt-clause-exact : goal.returns-then-not-is_lt-clause-exact
unfolding least_image
returns-then-not-is_lt-clause-exact c =
    stopped (renamings c.args.permutations.now) c.args.position.now c.loop-round.reached c.least_of-least.result (256 - c.loop-round._round) c.order.result
    c.is_lt.result c.loop-round.invariant c.least_of-least.ensures.value c.order.ensures.words c.is_lt.ensures c.if-not-is_lt.true

pub returns-then-not-is_lt-clause-turned : goal.returns-then-not-is_lt-clause-turned
returns-then-not-is_lt-clause-turned c = c.loop-round.invariant.reached

pub loop-round-preserved : goal.loop-round-preserved
loop-round-preserved c =
    let one : 256 - c.loop-round._round ≡ suc (256 - (c.loop-round._round + 1)) = (let more = c.loop-round-test.true in omega arith) in
    next_round (renamings c.args.permutations.now) c.args.position.now c.loop-round.reached c.least_of-least.result (256 - c.loop-round._round)
    (256 - (c.loop-round._round + 1)) c.order.result c.is_lt.result c.loop-round.invariant one c.least_of-least.ensures.value c.least_of-least.ensures.turned
    c.order.ensures.words c.is_lt.ensures c.if-not-is_lt.false

pub returns-clause-exact : goal.returns-clause-exact
unfolding least_image
returns-clause-exact c =
    last_round (renamings c.args.permutations.now) c.args.position.now c.loop-round.reached (256 - c.loop-round._round) c.loop-round.invariant
    (let past = c.loop-round-test.false in omega arith)

pub returns-clause-turned : goal.returns-clause-turned
returns-clause-turned c = c.loop-round.invariant.reached
