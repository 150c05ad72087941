use Rattle.std.proofs.Common.{arith}
use Rattle.window_images.proofs.Rounds.{first_best, next_best, last_best}
use Rattle.window_images.proofs.least.least_of.Goals as goal

pub loop-permutation-init : goal.loop-permutation-init
loop-permutation-init c = first_best c.args.permutations.now c.args.position.now

pub loop-permutation-preserved : goal.loop-permutation-preserved
loop-permutation-preserved c =
    next_best c.args.permutations.now c.args.position.now c.loop-permutation.best c.lesser_image-best.result c.loop-permutation.permutation-index
    c.permutation-item.result c.loop-permutation.invariant c.loop-permutation-test.true c.permutation-item.is c.lesser_image-best.ensures.value
    c.lesser_image-best.ensures.either

pub returns-clause-value : goal.returns-clause-value
returns-clause-value c =
    last_best c.args.permutations.now c.args.position.now c.loop-permutation.best c.loop-permutation.permutation-index c.loop-permutation.invariant
    (let past = c.loop-permutation-test.false in omega arith)

pub returns-clause-turned : goal.returns-clause-turned
returns-clause-turned c = c.loop-permutation.invariant.reached
