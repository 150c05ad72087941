use Rattle.window_floor.proofs.WorkerLaws.{workers_are_tested}
use Rattle.window_floor.proofs.laws.window_workers_are_tested.Goals as goal

pub returns : goal.returns
returns c = workers_are_tested
