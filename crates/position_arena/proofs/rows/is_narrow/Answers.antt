-- A word that is not 0 has a vertex too many; where all are 0 there is none.
use Rattle.std.proofs.Common.{refl, ◌∙◌, arith}
use Rattle.comp_graph.proofs.WordSets.{high_word, narrow_from}
use Rattle.position_arena.proofs.rows.is_narrow.Goals as goal

pub returns-then-word-ne0 : goal.returns-then-word-ne0
returns-then-word-ne0 c = (λ h. cc, λ is. absurd (c.if-word-ne0.true (c.word.ensures.value ∙ high_word c.args.words c.args.vertices.now is c.loop-k.k c.loop-k.auto.k)))

pub returns : goal.returns
returns c = (λ h. narrow_from c.args.words c.args.vertices.now c.count.ensures.bounded (λ k l t. c.loop-k.invariant k l (omega (arith, t, c.loop-k-test.false))), λ is. refl)
