use Rattle.cert_checker.proofs.Checked.{RiseBefore}
use Rattle.window_checker.proofs.row_order.first_fall.Given as goal

abbrev pub invariant-loop-k : goal.invariant-loop-k
invariant-loop-k l = RiseBefore l.rows l.k
