use Rattle.comp_graph.specs.Games.{game_of}
use Rattle.normal_steps.specs.Sound.{IsSound}
use Rattle.cert_checker.proofs.RowTests.{EachBefore}
use Rattle.cover_cert.proofs.checking.first_unsound.Given as goal

abbrev pub invariant-loop-k : goal.invariant-loop-k
invariant-loop-k l = EachBefore (λ r. IsSound (game_of l.game) r.position) l.rows l.k
