use Rattle.comp_graph.specs.Graphs.{dag_of}
use Rattle.forced_bounds.proofs.Taken.{IsTaken}
use Rattle.forced_bounds.proofs.evaluating.forced_loads.Given as goal

abbrev pub invariant-loop-v : goal.invariant-loop-v
invariant-loop-v l = IsTaken (dag_of l.graph) l.p l.v l.computed l.met l.taken
