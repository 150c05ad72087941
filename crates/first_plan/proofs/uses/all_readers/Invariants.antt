-- The readers of the vertices below u.
use Rattle.std.proofs.Common.{◌≤◌}
use Rattle.comp_graph.specs.Graphs.{dag_of}
use Rattle.first_plan.proofs.Calls.{AreReadersBelow}
use Rattle.first_plan.proofs.uses.all_readers.Given as goal

abbrev pub invariant-loop-u : goal.invariant-loop-u
invariant-loop-u l = record { below : l.u ≤ l.u-end; readers : AreReadersBelow (dag_of l.graph) l.u l.readers.items }
