-- The law is proved in proofs/Parts.antt.
use Rattle.values_text.proofs.Parts.{one_list}
use Rattle.values_text.proofs.laws.one_list.Goals as goal

pub returns : goal.returns
returns c = one_list
