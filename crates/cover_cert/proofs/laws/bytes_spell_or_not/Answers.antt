use Rattle.cover_cert.proofs.CoverReadable.{cover_spelled_or_not}
use Rattle.cover_cert.proofs.laws.bytes_spell_or_not.Goals as goal

pub returns : goal.returns
returns c = cover_spelled_or_not
