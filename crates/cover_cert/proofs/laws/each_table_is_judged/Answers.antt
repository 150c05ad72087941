use Rattle.cover_cert.proofs.CoverDecided.{cover_table_or_refusal}
use Rattle.cover_cert.proofs.laws.each_table_is_judged.Goals as goal

pub returns : goal.returns
returns c = cover_table_or_refusal
