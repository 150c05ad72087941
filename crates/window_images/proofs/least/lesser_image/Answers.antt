use Rattle.window_images.specs.Permutations.{renaming}
use Rattle.window_images.proofs.Rounds.{skipped, chosen, kept}
use Rattle.window_images.proofs.least.lesser_image.Goals as goal

pub returns-then-comes_after-clause-value : goal.returns-then-comes_after-clause-value
returns-then-comes_after-clause-value c =
    skipped (renaming c.args.permutation.now) c.args.position.now c.args.best.now c.image-red.result c.comes_after.result c.image-red.ensures.value
    c.comes_after.ensures c.if-comes_after.true

pub returns-then-is_lt-clause-value : goal.returns-then-is_lt-clause-value
returns-then-is_lt-clause-value c =
    chosen (renaming c.args.permutation.now) c.args.position.now c.args.best.now _ c.order.result c.is_lt.result
    (λ i. record { red = c.image-red.ensures.value i; blue = c.image.ensures.value i }) c.order.ensures.words c.is_lt.ensures c.if-is_lt.true

pub returns-else-is_lt-clause-value : goal.returns-else-is_lt-clause-value
returns-else-is_lt-clause-value c =
    kept (renaming c.args.permutation.now) c.args.position.now c.args.best.now _ c.order.result c.is_lt.result
    (λ i. record { red = c.image-red.ensures.value i; blue = c.image.ensures.value i }) c.order.ensures.words c.is_lt.ensures c.if-is_lt.false
