-- What stands is that of the search so far, and no turn ticked more than once.
use Rattle.std.specs.Prelude.{◌+◌, ◌≤◌}
use Rattle.cover_cert.specs.CoverTurns.{IsCoverSearching}
use Rattle.cover_cert.proofs.searching.run.Given as goal

abbrev pub invariant-loop-turn : goal.invariant-loop-turn
invariant-loop-turn g l = record {
  searching : IsCoverSearching l.game l.first l.budget l.turn l.frontier l.best l.made.items;
  counted : l.steps ≤ l.fn.steps + l.turn;
}
