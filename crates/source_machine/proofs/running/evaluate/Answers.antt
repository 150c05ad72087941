-- There are as many vertices as input elements once these are set.
use Rattle.source_machine.proofs.Runs.{inputs_counted}
use Rattle.source_machine.proofs.running.evaluate.Goals as goal

pub returns-clause-inputs : goal.returns-clause-inputs
returns-clause-inputs c = inputs_counted _ _ _ c.in_ok-entered.ensures
