use Rattle.std.proofs.Common.{◌≤◌}
use Rattle.comp_graph.specs.Games.{game_of}
use Rattle.window_steps.specs.Sets.{window_of}
use Rattle.window_floor.proofs.WindowLaws.{AreLoadsBelow}
use Rattle.window_floor.proofs.testing.are_loads.Given as goal

abbrev pub invariant-loop-v : goal.invariant-loop-v
invariant-loop-v l = record { below : l.v ≤ l.v-end; loads : AreLoadsBelow (game_of l.game) (window_of l.window) l.v }
