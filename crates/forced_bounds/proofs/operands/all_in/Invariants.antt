use Rattle.std.proofs.Common.{take}
use Rattle.comp_graph.specs.Graphs.{vertices_of}
use Rattle.forced_bounds.proofs.OperandLaws.{AreAllIn}
use Rattle.forced_bounds.proofs.operands.all_in.Given as goal

abbrev pub invariant-loop-operand : goal.invariant-loop-operand
invariant-loop-operand l = AreAllIn (vertices_of (take l.operand-index l.operands)) l.set l.all
