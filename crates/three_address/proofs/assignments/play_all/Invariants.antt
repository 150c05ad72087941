-- The items that are left lead from here to what all lead to from the start.
use Rattle.std.proofs.Common.{◌≡◌, drop}
use Rattle.kernel_ast.specs.Steps.{each}
use Rattle.kernel_walk.specs.SetElements.{elements}
use Rattle.loop_unroll.specs.Plays as plays
use Rattle.three_address.specs.Lowering as spec
use Rattle.three_address.proofs.assignments.play_all.Given as goal

abbrev pub invariant-loop-item : goal.invariant-loop-item
invariant-loop-item l =
    each (plays.play spec.lowering (elements l.written)) (drop l.item-index l.items) (l.stack.items, l.nodes.items)
    ≡ each (plays.play spec.lowering (elements l.written)) l.items (l.fn.stack.items, l.fn.nodes.items)
