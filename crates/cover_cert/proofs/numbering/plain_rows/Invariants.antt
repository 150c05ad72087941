use Rattle.std.proofs.Common.{◌≡◌, take}
use Rattle.cover_cert.specs.CoverMaking.{made_rows}
use Rattle.cover_cert.proofs.numbering.plain_rows.Given as goal

abbrev pub invariant-loop-k : goal.invariant-loop-k
invariant-loop-k l = l.rows.items ≡ made_rows (take l.k l.made)
