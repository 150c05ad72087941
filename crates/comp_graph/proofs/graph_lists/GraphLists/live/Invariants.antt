use Rattle.comp_graph.specs.Graphs.{dag_of}
use Rattle.comp_graph.proofs.Live.{IsSwept}
use Rattle.comp_graph.proofs.graph_lists.GraphLists.live.Given as goal

abbrev pub invariant-loop-v : goal.invariant-loop-v
invariant-loop-v l = IsSwept (dag_of l.self) l.v l.live
