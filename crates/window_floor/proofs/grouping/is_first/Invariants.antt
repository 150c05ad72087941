use Rattle.std.proofs.Common.{◌≡◌, ◌≤◌, false}
use Rattle.std.specs.FinSet.{contains}
use Rattle.comp_graph.specs.Vertices.{any_below}
use Rattle.window_floor.proofs.grouping.is_first.Given as goal

abbrev pub invariant-loop-u : goal.invariant-loop-u
invariant-loop-u l = record { below : l.u ≤ l.v; none : any_below l.u (λ u. contains l.members u) ≡ false }
