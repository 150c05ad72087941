use Rattle.std.proofs.Common.{◌≡◌, map, take}
use Rattle.cover_cert.specs.CoverMaking.{full_row}
use Rattle.cover_cert.proofs.numbering.full_rows.Given as goal

abbrev pub invariant-loop-k : goal.invariant-loop-k
invariant-loop-k l = l.full.items ≡ map (full_row l.rows) (take l.k l.made)
