use Rattle.window_cert.proofs.OneSpelling.{cert_spelling_is_one as lemma}
use Rattle.window_cert.proofs.laws.cert_spelling_is_one.Goals as goal

pub returns : goal.returns
returns c = lemma
