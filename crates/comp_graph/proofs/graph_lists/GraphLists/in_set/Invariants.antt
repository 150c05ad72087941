use Rattle.std.proofs.Common.{◌≡◌, true}
use Rattle.comp_graph.specs.Vertices.{set_below}
use Rattle.comp_graph.proofs.graph_lists.GraphLists.in_set.Given as goal

abbrev pub invariant-loop-v : goal.invariant-loop-v
invariant-loop-v l = l.inputs ≡ set_below (λ v. true) l.v
