use Rattle.std.specs.FinSet as set
use Rattle.std.proofs.Common.{ap, ◌∙◌, subst}
use Rattle.comp_graph.specs.Vertices.{AllBelow}
use Rattle.comp_graph.proofs.Calls.{has_words, AllBelow-words}
use Rattle.comp_graph.proofs.vertex_set.VertexSet.has.Goals as goal

pub returns-clause-value : goal.returns-clause-value
returns-clause-value c = has_words c.self.inside.words c.args.v c.requires ∙ ap (λ s. set.contains s c.args.v) c.self.view_is

pub returns-clause-bounded : goal.returns-clause-bounded
returns-clause-bounded c = subst (AllBelow 256) c.self.view_is (AllBelow-words c.self.inside.words)
