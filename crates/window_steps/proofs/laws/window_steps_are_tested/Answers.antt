use Rattle.window_steps.proofs.Tests.{steps_are_tested, finish_is_tested}
use Rattle.window_steps.proofs.laws.window_steps_are_tested.Goals as goal

pub returns-clause-steps : goal.returns-clause-steps
returns-clause-steps c = steps_are_tested

pub returns-clause-finish : goal.returns-clause-finish
returns-clause-finish c = finish_is_tested
