-- The two loops fill the first layout.
use Rattle.std.proofs.Common.{◌≡◌, ◌∙◌, ap, sym, refl, arith, true, cond, ltb}
use Rattle.std.specs.FinSet as set
use Rattle.comp_graph.specs.Vertices.{set_below}
use Rattle.comp_graph.proofs.GraphLaws.{set_below-next}
use Rattle.slot_alloc.proofs.Emitting.{zero_words, zero_filled}
use Rattle.slot_alloc.proofs.emitter.Emitter.begin.Goals as goal

pub loop-s-init : goal.loop-s-init
unfolding set_below
loop-s-init c = c.empty-free.ensures

pub loop-s-preserved : goal.loop-s-preserved
loop-s-preserved c = c.with-free.ensures ∙ ap (λ s. set.insert s c.loop-s.s) c.loop-s.invariant ∙ sym (set_below-next c.loop-s.s)

pub loop-k-init : goal.loop-k-init
loop-k-init c = record { sized = refl; filled = zero_filled 256 }

pub returns-clause-layout : goal.returns-clause-layout
returns-clause-layout c =
    let all : c.loop-s.s ≡ c.args.slots = omega arith in
    let words = c.inputs-words.ensures.value in
    let end : c.loop-k.k ≡ c.inputs-words.result = omega arith in
    λ i. record {
      free = (c.loop-s.invariant ∙ ap (set_below (λ s. true)) all) i;
      slot_of = λ v. zero_words 256 v i;
      word_of = λ v. (c.loop-k.invariant.filled v ∙ ap (λ k. cond (ltb v k) v 0) (end ∙ words)) i;
      words = words i;
    }
