use Rattle.comp_graph.specs.Games.{game_of}
use Rattle.potential_cert.specs.Table.{FinishHolds}
use Rattle.cert_checker.proofs.RowTests.{EachBefore}
use Rattle.cover_cert.specs.CoverTable.{plain}
use Rattle.cover_cert.proofs.checking.first_bad_finish.Given as goal

abbrev pub invariant-loop-k : goal.invariant-loop-k
invariant-loop-k l = EachBefore (λ r. FinishHolds (game_of l.game) l.bound (plain r)) l.rows l.k
