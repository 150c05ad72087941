-- The turns below v are done.
use Rattle.comp_graph.specs.Games.{game_of}
use Rattle.first_plan.proofs.Calls.{AreDone}
use Rattle.first_plan.proofs.planning.all_steps.Given as goal

abbrev pub invariant-loop-v : goal.invariant-loop-v
invariant-loop-v l = AreDone (game_of l.game) l.v l.steps.items l.position l.ahead
