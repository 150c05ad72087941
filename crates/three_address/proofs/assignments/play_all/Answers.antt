-- What is left leads to what all lead to.
use Rattle.std.proofs.Common.{arith}
use Rattle.kernel_walk.specs.SetElements.{elements}
use Rattle.loop_unroll.specs.Plays as plays
use Rattle.three_address.specs.Lowering as spec
use Rattle.three_address.proofs.EachLoops.{each_kept, each_done}
use Rattle.three_address.proofs.assignments.play_all.Goals as goal

pub loop-item-preserved : goal.loop-item-preserved
loop-item-preserved c = each_kept (plays.play spec.lowering (elements c.args.written.now)) c.args.items.now c.loop-item.item-index _ (c.loop-item.stack.items, c.loop-item.nodes.items) (c.play.new.stack.items, c.play.new.nodes.items) _ (omega arith) c.loop-item.invariant c.in_ok-play.ensures

pub returns : goal.returns
returns c = each_done (plays.play spec.lowering (elements c.args.written.now)) c.args.items.now c.loop-item.item-index (c.loop-item.stack.items, c.loop-item.nodes.items) _ (omega arith) c.loop-item.invariant
