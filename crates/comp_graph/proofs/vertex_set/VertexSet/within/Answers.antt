use Rattle.comp_graph.specs.Sets.{IsWithin-decided}
use Rattle.comp_graph.proofs.Calls.{is_subset-by_least}
use Rattle.comp_graph.proofs.vertex_set.VertexSet.within.Goals as goal

pub returns : goal.returns
returns c = IsWithin-decided _ _ _ (is_subset-by_least c.least.result _ _ _ _ c.minus.ensures c.least.ensures.value c.is_none.ensures)
