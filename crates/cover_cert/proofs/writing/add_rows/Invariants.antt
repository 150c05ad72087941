use Rattle.std.proofs.Common.{◌≡◌, ◌++◌, take}
use Rattle.std.specs.Prelude.{flat_map}
use Rattle.cert_checker.proofs.RowTests.{EachBefore}
use Rattle.cover_cert.specs.CoverBytes.{cover_row_bytes, AreRowWords}
use Rattle.cover_cert.proofs.writing.add_rows.Given as goal

abbrev pub invariant-loop-k : goal.invariant-loop-k
invariant-loop-k l = record {
  bytes : l.bytes.items ≡ l.fn.bytes.items ++ flat_map (cover_row_bytes l.words) (take l.k l.rows);
  fit : EachBefore AreRowWords l.rows l.k;
}
