use Rattle.comp_graph.specs.Games.{game_of}
use Rattle.cover_cert.specs.CoverTable.{NamesHold}
use Rattle.cert_checker.proofs.RowTests.{EachBefore}
use Rattle.cover_cert.proofs.checking.first_bad_names.Given as goal

abbrev pub invariant-loop-k : goal.invariant-loop-k
invariant-loop-k l = EachBefore (NamesHold (game_of l.game) l.rows) l.rows l.k
