use Rattle.cover_cert.proofs.Checked.{cover_refusal_is_one}
use Rattle.cover_cert.proofs.laws.cover_refusal_is_one.Goals as goal

pub returns : goal.returns
returns c = cover_refusal_is_one
