use Rattle.part_bounds.proofs.Costs.{parts_cost_no_more, sums_are_bounds}
use Rattle.part_bounds.proofs.WholeCosts.{parts_cost_all}
use Rattle.part_bounds.proofs.laws.bounds_add_up.Goals as goal

pub returns-clause-costs : goal.returns-clause-costs
returns-clause-costs c = parts_cost_no_more

pub returns-clause-bounds : goal.returns-clause-bounds
returns-clause-bounds c = sums_are_bounds

pub returns-clause-all : goal.returns-clause-all
returns-clause-all c = parts_cost_all
