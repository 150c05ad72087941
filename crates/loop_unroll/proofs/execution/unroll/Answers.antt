-- What is said of the executed assignments is said of the walk.
use Rattle.std.proofs.Common.{Ok, Err}
use Rattle.loop_unroll.proofs.Ended.{answers_end}
use Rattle.loop_unroll.proofs.Walks.{answers_walk}
use Rattle.loop_unroll.proofs.execution.unroll.Goals as goal

pub returns-in-Ok-clause-walk : goal.returns-in-Ok-clause-walk
returns-in-Ok-clause-walk c = answers_walk _ _ (Ok c.in-Ok.flats) c.in-Ok.ensures

pub returns-in-Err-clause-walk : goal.returns-in-Err-clause-walk
returns-in-Err-clause-walk c = answers_walk _ _ (Err c.into.result) (answers_end _ c.in-Err.stop c.into.result c.into.ensures c.in-Err.ensures)

pub returns-in-Err-clause-flats : goal.returns-in-Err-clause-flats
returns-in-Err-clause-flats c = answers_end _ c.in-Err.stop c.into.result c.into.ensures c.in-Err.ensures
