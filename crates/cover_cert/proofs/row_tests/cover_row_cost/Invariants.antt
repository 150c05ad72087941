use Rattle.std.proofs.Common.{◌-◌}
use Rattle.potential_cert.proofs.RowSearch.{IsBetween}
use Rattle.cover_cert.specs.CoverTable.{plain_rows}
use Rattle.cover_cert.proofs.row_tests.cover_row_cost.Given as goal

abbrev pub invariant-loop-low : goal.invariant-loop-low
invariant-loop-low l = IsBetween (plain_rows l.rows) l.position l.low l.high

abbrev pub decreases-loop-low : goal.decreases-loop-low
decreases-loop-low l = l.high - l.low
