use Rattle.cover_cert.proofs.Checked.{refused_is_no_cover_table}
use Rattle.cover_cert.proofs.laws.refused_is_no_cover_table.Goals as goal

pub returns : goal.returns
returns c = refused_is_no_cover_table
