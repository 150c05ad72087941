use Rattle.std.proofs.Common.{◌≡◌, ◌≤◌, ◌*◌, length, drop}
use Rattle.comp_graph.specs.Games.{game_of}
use Rattle.window_steps.specs.Sets.{window_of}
use Rattle.window_floor.specs.Counting.{none_counted, counted}
use Rattle.window_floor.proofs.entering.count_entries.Given as goal

abbrev pub invariant-loop-group : goal.invariant-loop-group
invariant-loop-group l = record {
  below : l.group-index ≤ length l.groups;
  value : counted (game_of l.game) (window_of l.window) l.position l.entries (drop l.group-index l.groups)
      ≡ counted (game_of l.game) (window_of l.window) l.position none_counted l.groups;
  few : l.entries.cost ≤ 2097120 * l.group-index;
}
