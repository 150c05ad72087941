use Rattle.std.proofs.Common.{◌≡◌, ◌≤◌, length}
use Rattle.comp_graph.specs.Games.{game_of}
use Rattle.window_steps.specs.Sets.{window_of}
use Rattle.window_floor.specs.GreedyCones.{taken_cones}
use Rattle.window_floor.proofs.ConeLoops.{IsMet}
use Rattle.window_floor.proofs.cones.cones.Given as goal

abbrev pub invariant-loop-v : goal.invariant-loop-v
invariant-loop-v l = record {
  below : l.v ≤ l.v-end;
  met : IsMet (game_of l.game) (window_of l.window) l.position l.avoid l.v l.met;
  count : l.count ≡ length (taken_cones (game_of l.game) (window_of l.window) l.position l.avoid l.v);
  few : l.count ≤ l.v;
}
