-- The code holds the instructions of the moves so far, and the rest can be emitted.
use Rattle.slot_alloc.specs.Emitters.{layout_of}
use Rattle.slot_alloc.proofs.Emitting.{IsEmitting}
use Rattle.slot_alloc.proofs.code.code_of_moves.Given as goal

abbrev pub invariant-loop-mv : goal.invariant-loop-mv
invariant-loop-mv l = IsEmitting l.graph l.slots l.moves l.mv-index (layout_of l.emitter) l.emitter.instructions.items
