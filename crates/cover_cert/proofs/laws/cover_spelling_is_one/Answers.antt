use Rattle.cover_cert.proofs.OneCoverSpelling.{cover_spelling_is_one}
use Rattle.cover_cert.proofs.laws.cover_spelling_is_one.Goals as goal

pub returns : goal.returns
returns c = cover_spelling_is_one
