use Rattle.std.proofs.Common.{◌≡◌}
use Rattle.comp_graph.specs.Vertices.{greatest_below}
use Rattle.comp_graph.specs.Graphs.{dag_of}
use Rattle.comp_graph.proofs.Degree.{live_preds}
use Rattle.comp_graph.proofs.graph_lists.GraphLists.degree.Given as goal

abbrev pub invariant-loop-v : goal.invariant-loop-v
invariant-loop-v l = l.most ≡ greatest_below l.v (live_preds (dag_of l.self))
