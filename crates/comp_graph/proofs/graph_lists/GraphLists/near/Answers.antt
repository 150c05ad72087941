use Rattle.std.proofs.Common.{◌≡◌, ◌<◌, length, get_or, inl, inr, ap, ◌∙◌, sym, arith}
use Rattle.std.proofs.lemmas.Bool.{cases_eq}
use Rattle.std.proofs.lemmas.List.{get_or-set_same, get_or-set_other, length-set}
use Rattle.std.proofs.Math.ListN.{set as put}
use Rattle.comp_graph.specs.Graphs.{preds_of}
use Rattle.comp_graph.specs.Words.{word_of}
use Rattle.comp_graph.proofs.graph_lists.GraphLists.near.Goals as goal

pub loop-v-preserved : goal.loop-v-preserved
loop-v-preserved c =
    let near = c.loop-v.near in
    let v = c.loop-v.v in
    let word = c.word.result in
    let here : word ≡ word_of (preds_of c.args.self.now v) 0 = c.word.ensures.value ∙ ap (λ s. word_of s 0) c.preds.ensures in
    let room : v < length near = omega (arith, c.loop-v.invariant.0, c.loop-v-test.true, c.loop-v.auto.v-end, c.min-end.ensures) in (
      length-set near v word ∙ c.loop-v.invariant.0,
      λ u h. elim (cases_eq u v) [
        | inl same ↦ ap (λ k. get_or (put near v word) k 0) same ∙ get_or-set_same near v word 0 room ∙ here ∙ ap (λ k. word_of (preds_of c.args.self.now k) 0) (sym same)
        | inr other ↦ get_or-set_other near v u word 0 other ∙ c.loop-v.invariant.1 u (omega (arith, h, other))
      ],
    )
