use Rattle.std.proofs.Common.{◌≡◌, ◌≤◌, length, map}
use Rattle.comp_graph.specs.Games.{game_of}
use Rattle.window_steps.specs.Sets.{window_of}
use Rattle.window_floor.specs.Groups.{group_of, groups_below}
use Rattle.window_floor.proofs.grouping.groups.Given as goal

abbrev pub invariant-loop-v : goal.invariant-loop-v
invariant-loop-v l = record {
  below : l.v ≤ l.v-end;
  found : map group_of l.found.items ≡ groups_below (game_of l.game) (window_of l.window) l.v;
  few : length l.found.items ≤ l.v;
}
