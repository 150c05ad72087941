use Rattle.branch_bound.specs.Frontiers.{IsTrying}
use Rattle.branch_bound.proofs.frontier.Frontier.expand.Given as goal

abbrev pub invariant-loop-step : goal.invariant-loop-step
invariant-loop-step g l = record {
  can_next : (goal.iterator-loop-step g).can_next l.step-iterator;
  is_finite : (goal.iterator-loop-step g).is_finite l.step-iterator;
  trying : IsTrying l.game l.k l.p l.cost l.fn.self l.self l.fn.best l.best l.step-iterator;
}
