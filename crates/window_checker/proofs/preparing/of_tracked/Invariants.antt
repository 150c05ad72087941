use Rattle.std.proofs.Common.{◌≡◌, ◌≤◌}
use Rattle.comp_graph.specs.Games.{game_of}
use Rattle.window_checker.specs.ValidCerts.{sets_below, tracked_operands}
use Rattle.window_checker.proofs.preparing.of_tracked.Given as goal

abbrev pub invariant-loop-v : goal.invariant-loop-v
invariant-loop-v l = record {
  below : l.v ≤ l.v-end;
  sets : l.sets.items ≡ sets_below l.v (tracked_operands (game_of l.game) l.tracked);
}
