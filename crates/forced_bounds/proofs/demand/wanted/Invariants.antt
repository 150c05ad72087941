use Rattle.std.proofs.Common.{◌≤◌, length}
use Rattle.comp_graph.specs.Graphs.{dag_of}
use Rattle.forced_bounds.proofs.DemandLaws.{IsSwept, IsHigh}
use Rattle.forced_bounds.proofs.demand.wanted.Given as goal

abbrev pub invariant-loop-v : goal.invariant-loop-v
invariant-loop-v l = record {
  swept : IsSwept (dag_of l.graph) l.p l.v l.needed l.read;
  high : IsHigh l.v l.needed l.top;
  few : l.top ≤ length l.graph.nodes;
}
