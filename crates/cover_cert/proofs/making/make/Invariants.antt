use Rattle.std.proofs.Common.{◌∷◌, map}
use Rattle.cover_cert.specs.CoverMaking.{made_rows, naming_of}
use Rattle.cover_cert.specs.CoverTurns.{IsDoing}
use Rattle.cover_cert.proofs.making.make.Given as goal

abbrev pub invariant-loop-step : goal.invariant-loop-step
invariant-loop-step g l = record {
  can_next : (goal.iterator-loop-step g).can_next l.step-iterator;
  is_finite : (goal.iterator-loop-step g).is_finite l.step-iterator;
  doing : IsDoing l.game l.k l.row (l.row ∷ made_rows l.made) l.fn.frontier l.frontier l.fn.best l.best (map (naming_of l.row.position) l.names.items) l.place l.step-iterator;
}
