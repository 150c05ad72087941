use Rattle.window_cert.proofs.FaultLaws.{faults_spell_none as spell_none, fault_is_one}
use Rattle.window_cert.proofs.laws.faults_spell_none.Goals as goal

pub returns-clause-none : goal.returns-clause-none
returns-clause-none c = spell_none

pub returns-clause-one : goal.returns-clause-one
returns-clause-one c = fault_is_one
