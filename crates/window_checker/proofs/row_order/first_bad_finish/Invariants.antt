use Rattle.window_checker.specs.Readiness.{FinishReachesIn}
use Rattle.cert_checker.proofs.RowTests.{EachBefore}
use Rattle.window_checker.proofs.row_order.first_bad_finish.Given as goal

abbrev pub invariant-loop-k : goal.invariant-loop-k
invariant-loop-k l = EachBefore (FinishReachesIn l.game l.window l.table) l.table.rows.now l.k
