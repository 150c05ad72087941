use Rattle.std.proofs.Common.{◌≡◌, ◌++◌, take}
use Rattle.std.specs.Prelude.{flat_map}
use Rattle.potential_cert.specs.TableBytes.{row_bytes, AreWords}
use Rattle.potential_cert.proofs.writing.add_rows.Given as goal

abbrev pub invariant-loop-row : goal.invariant-loop-row
invariant-loop-row l = record {
  bytes : l.bytes.items ≡ l.fn.bytes.items ++ flat_map (row_bytes l.words) (take l.row-index l.rows);
  costs : AreWords (take l.row-index l.rows);
}
