use Rattle.normal_steps.proofs.Simulation.{plays_cost_no_more, plays_from_start_cost_no_more}
use Rattle.normal_steps.proofs.laws.plays_cost_no_more.Goals as goal

pub returns-clause-from_any : goal.returns-clause-from_any
returns-clause-from_any c = plays_cost_no_more

pub returns-clause-from_start : goal.returns-clause-from_start
returns-clause-from_start c = plays_from_start_cost_no_more
