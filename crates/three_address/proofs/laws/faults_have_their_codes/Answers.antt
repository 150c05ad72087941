-- The laws of the codes of faults, as the lemmas show them.
use Rattle.three_address.proofs.FaultCodes.{walk_faults, value_faults}
use Rattle.three_address.proofs.laws.faults_have_their_codes.Goals as goal

pub returns-clause-walk : goal.returns-clause-walk
returns-clause-walk c = walk_faults

pub returns-clause-values : goal.returns-clause-values
returns-clause-values c = value_faults
