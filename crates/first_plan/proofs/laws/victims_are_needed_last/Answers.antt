-- The laws are lemmas.
use Rattle.first_plan.proofs.NextUses.{next_use_is_next, next_uses_exist}
use Rattle.first_plan.proofs.Chosen.{last_needed_is_last}
use Rattle.first_plan.proofs.Turns.{victim_red, victim_not_read}
use Rattle.first_plan.proofs.laws.victims_are_needed_last.Goals as goal

pub returns-clause-next : goal.returns-clause-next
returns-clause-next c = next_use_is_next

pub returns-clause-found : goal.returns-clause-found
returns-clause-found c = next_uses_exist

pub returns-clause-last : goal.returns-clause-last
returns-clause-last c = last_needed_is_last

pub returns-clause-spare : goal.returns-clause-spare
returns-clause-spare c = λ g dag room v planned p ready short. (victim_red g dag room v planned p ready short, victim_not_read g dag room v planned p ready short)
