-- The law is a lemma.
use Rattle.slot_alloc.proofs.Neatness.{plays_are_neat}
use Rattle.slot_alloc.proofs.laws.plays_are_neat.Goals as goal

pub returns : goal.returns
returns c = plays_are_neat
