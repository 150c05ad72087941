use Rattle.std.proofs.Common.{◌≡◌, ◌≤◌}
use Rattle.comp_graph.specs.Games.{game_of}
use Rattle.window_game.specs.Windows.{Window}
use Rattle.window_floor.specs.Workers.{workers_of}
use Rattle.window_floor.specs.Groups.{least_missed}
use Rattle.window_floor.proofs.grouping.least_missed.Given as goal

abbrev pub invariant-loop-u : goal.invariant-loop-u
invariant-loop-u l = record {
  below : l.u ≤ l.u-end;
  least : (w : Window) → l.workers ≡ workers_of (game_of l.game) w → l.least ≡ least_missed (game_of l.game) w l.members l.loads l.u;
}
