-- The law is a lemma.
use Rattle.slot_alloc.proofs.Right.{plan_code_is_right}
use Rattle.slot_alloc.proofs.laws.plan_code_is_right.Goals as goal

pub returns : goal.returns
returns c = plan_code_is_right
