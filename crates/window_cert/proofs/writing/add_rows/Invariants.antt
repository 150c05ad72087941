use Rattle.std.proofs.Common.{◌≡◌, ◌++◌, take}
use Rattle.std.specs.Prelude.{flat_map}
use Rattle.window_cert.specs.Bytes.{row_bytes}
use Rattle.window_cert.proofs.writing.add_rows.Given as goal

abbrev pub invariant-loop-row : goal.invariant-loop-row
invariant-loop-row l = l.bytes.items ≡ l.initial.bytes.items ++ flat_map (row_bytes l.vertices) (take l.row-index l.rows)
