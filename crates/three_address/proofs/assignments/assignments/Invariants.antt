-- The assignments that are left lead from here to what all lead to from the start.
use Rattle.std.proofs.Common.{◌≡◌, drop}
use Rattle.kernel_ast.specs.Steps.{each}
use Rattle.kernel_walk.specs.SetElements.{elements}
use Rattle.loop_unroll.specs.Plays as plays
use Rattle.three_address.specs.Lowering as spec
use Rattle.three_address.proofs.assignments.assignments.Given as goal

abbrev pub invariant-loop-flat : goal.invariant-loop-flat
invariant-loop-flat l =
    each (plays.play_flat spec.lowering) (drop l.flat-index l.flats) (elements l.written, l.nodes.items)
    ≡ each (plays.play_flat spec.lowering) l.flats (elements l.fn.written, l.fn.nodes.items)
