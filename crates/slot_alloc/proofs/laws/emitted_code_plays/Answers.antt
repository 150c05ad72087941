-- The law is a lemma.
use Rattle.slot_alloc.proofs.Emitting.{emitted_code_plays}
use Rattle.slot_alloc.proofs.laws.emitted_code_plays.Goals as goal

pub returns : goal.returns
returns c = emitted_code_plays
