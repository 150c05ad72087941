use Rattle.comp_graph.specs.Games.{game_of}
use Rattle.cover_cert.proofs.Supports.{RowsSoFar}
use Rattle.cover_cert.proofs.supporting.cover_support.Given as goal

abbrev pub invariant-loop-k : goal.invariant-loop-k
invariant-loop-k l = RowsSoFar (game_of l.game) l.rows l.cost l.least l.k
