use Rattle.std.proofs.Common.{◌≡◌, Bool, true, false, refl, sym, ◌∙◌, subst, arith}
use Rattle.comp_graph.specs.Games.{game_of}
use Rattle.window_laws.specs.Images.{IsAutomorphism}
use Rattle.window_steps.specs.Sets.{window_of}
use Rattle.window_images.specs.Permutations.{renaming}
use Rattle.window_images.proofs.Tested.{at_places, in_renamings, one_more_place}
use Rattle.window_images.proofs.automorphism.are_automorphisms.Goals as goal

apart : (b : Bool) → b ≡ true → b ≡ false → ⊥
apart b t f = let clash : true ≡ false = sym t ∙ f in cc

pub returns-then-not-is_automorphism : goal.returns-then-not-is_automorphism
returns-then-not-is_automorphism c = (
  λ h. absurd (apart false h refl),
  λ all. absurd (
      let auto = IsAutomorphism (game_of c.args.game.now) (window_of c.args.window.now) in
      let p = c.permutation-item.result in
      let inside = in_renamings c.args.permutations.now c.loop-permutation.permutation-index p c.loop-permutation-test.true in
      let one = all _ inside in
      apart c.is_automorphism.result (c.is_automorphism.ensures.1 (subst (λ q. auto (renaming q)) (sym c.permutation-item.is) one)) c.if-not-is_automorphism.true),
)

pub loop-permutation-preserved : goal.loop-permutation-preserved
loop-permutation-preserved c =
    one_more_place (IsAutomorphism (game_of c.args.game.now) (window_of c.args.window.now)) c.args.permutations.now c.loop-permutation.permutation-index
    c.permutation-item.result c.loop-permutation.invariant c.loop-permutation-test.true c.permutation-item.is
    (c.is_automorphism.ensures.0 c.if-not-is_automorphism.false)

pub returns : goal.returns
returns c = (
  λ _. at_places (IsAutomorphism (game_of c.args.game.now) (window_of c.args.window.now)) c.args.permutations.now
      (λ k d l. c.loop-permutation.invariant k d (let past = c.loop-permutation-test.false in omega arith)),
  λ _. refl,
)
