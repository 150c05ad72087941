-- What is left leads to what all lead to.
use Rattle.std.proofs.Common.{sym, ap, ◌∙◌, arith}
use Rattle.kernel_walk.specs.SetElements.{elements}
use Rattle.loop_unroll.specs.Plays as plays
use Rattle.three_address.specs.Lowering as spec
use Rattle.three_address.proofs.EachLoops.{each_kept, each_done}
use Rattle.three_address.proofs.assignments.assignments.Goals as goal

pub loop-flat-preserved : goal.loop-flat-preserved
loop-flat-preserved c = each_kept (plays.play_flat spec.lowering) c.args.flats.now c.loop-flat.flat-index _ (elements c.loop-flat.written, c.loop-flat.nodes.items) (elements c.assignment.new.written, c.assignment.new.nodes.items) _ (omega arith) c.loop-flat.invariant
    (ap (λ flat. plays.play_flat spec.lowering flat (elements c.loop-flat.written, c.loop-flat.nodes.items)) (sym c.flat-item.is) ∙ c.in_ok-assignment.ensures)

pub returns : goal.returns
returns c = each_done (plays.play_flat spec.lowering) c.args.flats.now c.loop-flat.flat-index (elements c.loop-flat.written, c.loop-flat.nodes.items) _ (omega arith) c.loop-flat.invariant
