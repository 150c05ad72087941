use Rattle.std.proofs.Common.{◌-◌}
use Rattle.comp_graph.specs.Vertices.{size}
use Rattle.comp_graph.specs.Graphs.{dag_of}
use Rattle.forced_bounds.proofs.SpreadLaws.{IsSpread}
use Rattle.forced_bounds.proofs.spread.free_cone.Given as goal

abbrev pub invariant-loop-w : goal.invariant-loop-w
invariant-loop-w l = IsSpread (dag_of l.graph) l.v l.avoid l.met l.cone l.ahead

abbrev pub decreases-loop-w : goal.decreases-loop-w
decreases-loop-w l = 256 - size l.cone
