use Rattle.std.proofs.Common.{◌≡◌, ◌<◌, sym, subst, arith}
use Rattle.comp_graph.specs.Words.{set_of_words}
use Rattle.window_laws.specs.Images.{IsImage}
use Rattle.window_images.specs.Permutations.{renaming}
use Rattle.window_images.specs.Making.{IsDone, from_word}
use Rattle.window_images.proofs.SetImages.{none_done, all_done, image_is}
use Rattle.window_images.proofs.permutation.Permutation.image.Goals as goal

pub loop-k-init : goal.loop-k-init
loop-k-init c = (none_done (renaming c.args.self.now) c.args.set.now, λ h. absurd (omega (arith, h)), λ h. absurd (omega (arith, h)))

-- the image of the whole set
is_whole : (c : goal.After-from_words) → IsImage (renaming c.args.self.now) c.args.set.now c.from_words.result
is_whole c =
    let end : c.loop-k.k ≡ 4 = (let past = c.loop-k-test.false in let most = c.loop-k.auto.k-end in omega arith) in
    subst (IsImage (renaming c.args.self.now) c.args.set.now) (sym c.from_words.ensures)
    (all_done (renaming c.args.self.now) c.args.set.now (set_of_words c.loop-k.words)
    (subst (λ k. IsDone (renaming c.args.self.now) c.args.set.now (from_word c.args.set.now k) (set_of_words c.loop-k.words)) end c.loop-k.invariant.0)
    (c.loop-k.invariant.1 (omega (arith, end))))

pub returns-clause-image : goal.returns-clause-image
returns-clause-image c = is_whole c

pub returns-clause-value : goal.returns-clause-value
returns-clause-value c =
    let some : 0 < c.loop-k.k = (let past = c.loop-k-test.false in omega arith) in
    image_is c.args.self.now (c.loop-k.invariant.2 some) c.args.set.now c.from_words.result (c.loop-k.invariant.1 some) (is_whole c)
