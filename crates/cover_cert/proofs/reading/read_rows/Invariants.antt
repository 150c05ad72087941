use Rattle.cover_cert.specs.CoverReadings.{BeginsWithRows}
use Rattle.cover_cert.proofs.reading.read_rows.Given as goal

abbrev pub invariant-loop-k : goal.invariant-loop-k
invariant-loop-k l = BeginsWithRows l.words l._k l.fn.cursor l.cursor l.rows.items
