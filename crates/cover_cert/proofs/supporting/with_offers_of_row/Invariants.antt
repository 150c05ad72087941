use Rattle.comp_graph.specs.Games.{game_of}
use Rattle.cover_cert.proofs.Supports.{OffersSoFar}
use Rattle.cover_cert.proofs.supporting.with_offers_of_row.Given as goal

abbrev pub invariant-loop-step : goal.invariant-loop-step
invariant-loop-step l = record {
  can_next : (goal.iterator-loop-step).can_next l.step-iterator;
  is_finite : (goal.iterator-loop-step).is_finite l.step-iterator;
  offers : OffersSoFar (game_of l.game) l.rows l.row l.most l.least l.step-iterator l.place;
}
