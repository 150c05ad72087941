use Rattle.normal_steps.proofs.StepTestLaws.{legal_steps_are_one_list, legal_steps_are_listed}
use Rattle.normal_steps.proofs.laws.legal_steps_are_one_list.Goals as goal

pub returns-clause-one : goal.returns-clause-one
returns-clause-one c = legal_steps_are_one_list

pub returns-clause-listed : goal.returns-clause-listed
returns-clause-listed c = legal_steps_are_listed
