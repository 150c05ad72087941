use Rattle.cover_cert.specs.CoverReadings.{BeginsWithNames}
use Rattle.cover_cert.proofs.reading.read_names.Given as goal

abbrev pub invariant-loop-k : goal.invariant-loop-k
invariant-loop-k l = BeginsWithNames l._k l.fn.cursor l.cursor l.names.items
