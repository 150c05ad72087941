use Rattle.window_images.specs.Permutations.{renaming}
use Rattle.window_images.proofs.Tested.{takes_decided}
use Rattle.window_images.proofs.automorphism.takes.Goals as goal

pub returns : goal.returns
returns c = takes_decided (renaming c.args.permutation.now) c.args.from.now c.args.to.now c.image.result c.eq.result c.image.ensures.image c.eq.ensures
