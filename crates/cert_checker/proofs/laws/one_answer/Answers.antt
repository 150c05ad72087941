use Rattle.cert_checker.proofs.Decided.{table_or_refusal}
use Rattle.cert_checker.proofs.OneRefusal.{refusal_is_one}
use Rattle.cert_checker.proofs.laws.one_answer.Goals as goal

pub returns-clause-always : goal.returns-clause-always
returns-clause-always c = table_or_refusal

pub returns-clause-one : goal.returns-clause-one
returns-clause-one c = refusal_is_one
