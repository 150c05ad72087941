use Rattle.cert_checker.proofs.Checked.{RiseBefore}
use Rattle.window_cert.proofs.parts.are_rising.Given as goal

abbrev pub invariant-rows : goal.invariant-rows
invariant-rows l = RiseBefore l.rows l.k
