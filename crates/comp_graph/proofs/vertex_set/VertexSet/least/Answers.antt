use Rattle.std.proofs.Common.{◌∙◌, subst, sym, arith, ◌<◌, get_or}
use Rattle.comp_graph.specs.Vertices.{AllBelow}
use Rattle.comp_graph.proofs.Calls.{least_in_words, IsLeast_at, none_in_zero_words, AllBelow-words}
use Rattle.comp_graph.proofs.vertex_set.VertexSet.least.Goals as goal

pub returns-then-word-ne0-clause-value : goal.returns-then-word-ne0-clause-value
returns-then-word-ne0-clause-value c =
    let some : 0 < get_or c.self.inside.words c.loop-k.k 0 = omega arith in
    IsLeast_at c.self.view_is (least_in_words c.self.inside.words c.loop-k.k c.self.invariant c.loop-k-test.true c.loop-k.invariant some)

pub returns-then-word-ne0-clause-bounded : goal.returns-then-word-ne0-clause-bounded
returns-then-word-ne0-clause-bounded c = subst (AllBelow 256) c.self.view_is (AllBelow-words c.self.inside.words)

pub returns-clause-value : goal.returns-clause-value
returns-clause-value c = sym c.self.view_is ∙ none_in_zero_words c.self.inside.words (λ k l. c.loop-k.invariant k (omega arith))

pub returns-clause-bounded : goal.returns-clause-bounded
returns-clause-bounded c = subst (AllBelow 256) c.self.view_is (AllBelow-words c.self.inside.words)
