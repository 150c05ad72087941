-- The laws are lemmas.
use Rattle.first_plan.proofs.Turns.{first_plan_finishes}
use Rattle.first_plan.proofs.Costs.{works_in_order, works_once}
use Rattle.first_plan.proofs.laws.first_plan_finishes.Goals as goal

pub returns-clause-finishes : goal.returns-clause-finishes
returns-clause-finishes c = first_plan_finishes

pub returns-clause-works : goal.returns-clause-works
returns-clause-works c = works_in_order

pub returns-clause-once : goal.returns-clause-once
returns-clause-once c = works_once
