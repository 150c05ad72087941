use Rattle.window_steps.proofs.Listed.{step_sets_are_listed, step_sets_are_tested}
use Rattle.window_steps.proofs.laws.window_steps_are_listed.Goals as goal

pub returns-clause-tested : goal.returns-clause-tested
returns-clause-tested c = step_sets_are_tested

pub returns-clause-listed : goal.returns-clause-listed
returns-clause-listed c = step_sets_are_listed
