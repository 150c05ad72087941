use Rattle.comp_graph.specs.Games.{game_of}
use Rattle.normal_steps.proofs.Playing.{IsUnderWay}
use Rattle.normal_steps.proofs.plan.total_of.Given as goal

abbrev pub invariant-loop-step : goal.invariant-loop-step
invariant-loop-step l = IsUnderWay (game_of l.game) l.steps l.step-index l.position l.total
