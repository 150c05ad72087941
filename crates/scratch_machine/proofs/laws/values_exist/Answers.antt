-- The law is a lemma.
use Rattle.scratch_machine.proofs.GraphValues.{values_exist}
use Rattle.scratch_machine.proofs.laws.values_exist.Goals as goal

pub returns : goal.returns
returns c = values_exist
