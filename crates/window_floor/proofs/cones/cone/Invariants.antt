use Rattle.std.proofs.Common.{◌≡◌, ◌≤◌, ◌+◌, suc}
use Rattle.comp_graph.specs.Games.{game_of}
use Rattle.window_steps.specs.Sets.{window_of}
use Rattle.forced_bounds.specs.Floor.{only}
use Rattle.window_floor.specs.GreedyCones.{walked_back}
use Rattle.window_floor.proofs.cones.cone.Given as goal

abbrev pub invariant-loop-u : goal.invariant-loop-u
invariant-loop-u l = record {
  below : l.u ≤ l.v + 1;
  found : walked_back (game_of l.game) (window_of l.window) l.cheap l.u l.found ≡ walked_back (game_of l.game) (window_of l.window) l.cheap (suc l.v) (only l.v);
}
