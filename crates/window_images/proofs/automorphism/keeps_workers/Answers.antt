use Rattle.std.proofs.Common.{◌≤◌, length, ap, ◌∙◌, refl, arith}
use Rattle.window_steps.specs.Sets.{window_of}
use Rattle.window_images.specs.Permutations.{renaming}
use Rattle.window_images.proofs.Tested.{all_kept}
use Rattle.window_images.proofs.automorphism.keeps_workers.Goals as goal

pub returns : goal.returns
returns c =
    let end = c.len-v-end.ensures.value ∙ ap (λ g. length g.nodes) c.graph.ensures.value in
    let all : length c.args.game.now.graph.nodes ≤ c.loop-v.v = (let past = c.loop-v-test.false in omega arith) in (
      λ _. all_kept c.args.game.now c.graph.ensures.valid.valid (window_of c.args.window.now) c.args.workers.now c.requires.workers
          (renaming c.args.permutation.now) c.loop-v.v c.loop-v.invariant all,
      λ _. refl,
    )
