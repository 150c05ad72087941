-- The vertices below v of each part are there.
use Rattle.part_bounds.proofs.Calls.{AreBelow}
use Rattle.part_bounds.proofs.parts.part_sets.Given as goal

abbrev pub invariant-loop-v : goal.invariant-loop-v
invariant-loop-v l = AreBelow l.game.graph l.parts l.v l.sets.items
