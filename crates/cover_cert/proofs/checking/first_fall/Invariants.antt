use Rattle.cert_checker.proofs.Checked.{RiseBefore}
use Rattle.cover_cert.specs.CoverTable.{plain_rows}
use Rattle.cover_cert.proofs.checking.first_fall.Given as goal

abbrev pub invariant-loop-k : goal.invariant-loop-k
invariant-loop-k l = RiseBefore (plain_rows l.rows) l.k
