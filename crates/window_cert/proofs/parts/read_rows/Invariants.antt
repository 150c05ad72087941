use Rattle.window_cert.specs.Bytes.{row_bytes, RowFits}
use Rattle.window_cert.specs.Readings.{BeginsWithMany}
use Rattle.window_cert.proofs.parts.read_rows.Given as goal

abbrev pub invariant-rows : goal.invariant-rows
invariant-rows l = BeginsWithMany (row_bytes l.vertices) (RowFits l.vertices) l._k l.initial.cursor l.cursor l.rows.items
