use Rattle.std.proofs.Common.{take}
use Rattle.comp_graph.specs.Graphs.{vertices_of}
use Rattle.forced_bounds.proofs.OperandLaws.{IsSomeIn}
use Rattle.forced_bounds.proofs.operands.some_in.Given as goal

abbrev pub invariant-loop-operand : goal.invariant-loop-operand
invariant-loop-operand l = IsSomeIn (vertices_of (take l.operand-index l.operands)) l.set l.some
