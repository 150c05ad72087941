-- The moves of the steps so far are listed, and the other steps finish from where they lead.
use Rattle.slot_alloc.proofs.Calls.{IsListed}
use Rattle.slot_alloc.proofs.moves.plan_moves.Given as goal

abbrev pub invariant-loop-step : goal.invariant-loop-step
invariant-loop-step l = IsListed l.plan l.step-index l.position l.moves.items
