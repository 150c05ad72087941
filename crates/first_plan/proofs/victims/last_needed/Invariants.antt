-- The best of the members below u.
use Rattle.comp_graph.specs.Graphs.{dag_of}
use Rattle.first_plan.proofs.Chosen.{IsBestBelow}
use Rattle.first_plan.proofs.victims.last_needed.Given as goal

abbrev pub invariant-loop-u : goal.invariant-loop-u
invariant-loop-u l = IsBestBelow (dag_of l.graph) l.turn.vertex l.members l.u l.vertex l.furthest
