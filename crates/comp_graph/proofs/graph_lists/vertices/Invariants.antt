use Rattle.std.proofs.Common.{◌≡◌, take}
use Rattle.comp_graph.specs.Graphs.{vertices_of}
use Rattle.comp_graph.proofs.graph_lists.vertices.Given as goal

abbrev pub invariant-loop-operand : goal.invariant-loop-operand
invariant-loop-operand l = l.found ≡ vertices_of (take l.operand-index l.operands)
