use Rattle.window_checker.specs.Readiness.{StepsSettleIn}
use Rattle.cert_checker.proofs.RowTests.{EachBefore}
use Rattle.window_checker.proofs.row_order.first_bad_steps.Given as goal

abbrev pub invariant-loop-k : goal.invariant-loop-k
invariant-loop-k l = EachBefore (StepsSettleIn l.game l.window l.table) l.table.rows.now l.k
