use Rattle.normal_steps.proofs.PlanMoves.{plays_are_pebblings, plans_are_pebblings}
use Rattle.normal_steps.proofs.laws.plays_are_pebblings.Goals as goal

pub returns-clause-from_any : goal.returns-clause-from_any
returns-clause-from_any c = plays_are_pebblings

pub returns-clause-from_start : goal.returns-clause-from_start
returns-clause-from_start c = plans_are_pebblings
