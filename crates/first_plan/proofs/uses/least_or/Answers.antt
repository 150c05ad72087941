-- The least member, or none.
use Rattle.first_plan.proofs.NextUses.{least_found, least_missing}
use Rattle.first_plan.proofs.uses.least_or.Goals as goal

pub returns-in-Some : goal.returns-in-Some
returns-in-Some c = least_found c.args.count c.in-Some.w c.args.members.now c.requires c.in-Some.ensures.value

pub returns-in-None : goal.returns-in-None
returns-in-None c = least_missing c.args.count c.args.members.now c.in-None.ensures.value
