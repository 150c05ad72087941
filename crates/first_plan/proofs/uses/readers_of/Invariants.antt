-- The readers below w.
use Rattle.std.proofs.Common.{◌≡◌, ◌≤◌}
use Rattle.std.specs.FinSet.{contains}
use Rattle.comp_graph.specs.Vertices.{set_below}
use Rattle.comp_graph.specs.Graphs.{dag_of}
use Rattle.first_plan.proofs.uses.readers_of.Given as goal

abbrev pub invariant-loop-w : goal.invariant-loop-w
invariant-loop-w l = record { below : l.w ≤ l.w-end; readers : l.readers ≡ set_below (λ w. contains ((dag_of l.graph).preds w) l.u) l.w }
