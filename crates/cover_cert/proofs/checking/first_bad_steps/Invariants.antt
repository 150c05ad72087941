use Rattle.comp_graph.specs.Games.{game_of}
use Rattle.cover_cert.specs.CoverTable.{StepsHold}
use Rattle.cert_checker.proofs.RowTests.{EachBefore}
use Rattle.cover_cert.proofs.checking.first_bad_steps.Given as goal

abbrev pub invariant-loop-k : goal.invariant-loop-k
invariant-loop-k l = EachBefore (StepsHold (game_of l.game) l.rows l.bound) l.rows l.k
