use Rattle.std.proofs.Common.{◌≡◌, ℕ, ◌+◌, ◌*◌, ◌<◌, get_or, sym, ap, ◌∙◌, subst, arith}
use Rattle.comp_graph.specs.Words.{set_of_words}
use Rattle.window_images.specs.Permutations.{PermutationParts, renaming}
use Rattle.window_images.specs.Making.{IsDone, from_word}
use Rattle.window_images.proofs.SetImages.{placing_begun, placing_ended, low_placed, high_placed, joined, fewer_bits, lowest, lowest_small, goes_there, there_small}
use Rattle.window_images.proofs.permutation.Permutation.place.Goals as goal

pub loop-rest-init : goal.loop-rest-init
loop-rest-init c =
    let p : PermutationParts = record { there = c.self.inside.there; back = c.self.inside.back } in
    let given = subst (λ q. IsDone (renaming q) c.args.set.now (from_word c.args.set.now c.args.k) (set_of_words c.args.image.now)) (sym c.self.view_is) c.requires.done in
    placing_begun (renaming p) c.args.set.now c.args.k c.word-rest.result c.args.image.now (record { four = c.told-image; fit = c.fits-image }) c.word-rest.ensures.value given

pub loop-rest-smaller-then-number-lt64 : goal.loop-rest-smaller-then-number-lt64
loop-rest-smaller-then-number-lt64 c = fewer_bits c.loop-rest.rest c.loop-rest-test.true c.loop-rest.invariant.placed.fits

pub loop-rest-smaller : goal.loop-rest-smaller
loop-rest-smaller c = fewer_bits c.loop-rest.rest c.loop-rest-test.true c.loop-rest.invariant.placed.fits

pub loop-rest-preserved-then-number-lt64 : goal.loop-rest-preserved-then-number-lt64
loop-rest-preserved-then-number-lt64 c =
    let p : PermutationParts = record { there = c.self.inside.there; back = c.self.inside.back } in
    let v : ℕ = c.args.k * 64 + lowest c.loop-rest.rest in
    let small : v < 256 = omega (arith, lowest_small c.loop-rest.rest c.loop-rest-test.true c.loop-rest.invariant.placed.fits, c.requires.word) in
    let goes : c.from-number.result ≡ (renaming p).there v =
    goes_there p c.self.invariant v c.from-number.result small
    (c.from-number.ensures ∙ ap (λ (k : ℕ). get_or c.self.inside.there (k * 64 + lowest c.loop-rest.rest) 0) c.from.ensures) in
    low_placed (renaming p) c.self.invariant.undone c.args.set.now c.args.k c.loop-rest.rest c.from-number.result c.loop-rest.image c.loop-rest.first
    c.loop-rest.invariant c.loop-rest-test.true goes c.if-number-lt64.true

pub loop-rest-preserved : goal.loop-rest-preserved
loop-rest-preserved c =
    let p : PermutationParts = record { there = c.self.inside.there; back = c.self.inside.back } in
    let v : ℕ = c.args.k * 64 + lowest c.loop-rest.rest in
    let small : v < 256 = omega (arith, lowest_small c.loop-rest.rest c.loop-rest-test.true c.loop-rest.invariant.placed.fits, c.requires.word) in
    let goes : c.from-number.result ≡ (renaming p).there v =
    goes_there p c.self.invariant v c.from-number.result small
    (c.from-number.ensures ∙ ap (λ (k : ℕ). get_or c.self.inside.there (k * 64 + lowest c.loop-rest.rest) 0) c.from.ensures) in
    high_placed (renaming p) c.self.invariant.undone c.args.set.now c.args.k c.loop-rest.rest c.from-number.result c.loop-rest.image c.loop-rest.first
    c.loop-rest.invariant c.loop-rest-test.true goes c.if-number-lt64.false (subst (λ (x : ℕ). x < 256) (sym goes) (there_small p c.self.invariant v small))

pub returns-clause-done : goal.returns-clause-done
returns-clause-done c =
    let p : PermutationParts = record { there = c.self.inside.there; back = c.self.inside.back } in
    subst (λ q. IsDone (renaming q) c.args.set.now (from_word c.args.set.now (c.args.k + 1)) (set_of_words (joined c.loop-rest.image c.loop-rest.first))) c.self.view_is
    (placing_ended (renaming p) c.args.set.now c.args.k c.loop-rest.rest c.loop-rest.image c.loop-rest.first c.loop-rest.invariant c.loop-rest-test.false)
