use Rattle.std.proofs.Common.{◌≡◌, ◌≤◌}
use Rattle.comp_graph.specs.Vertices.{set_below}
use Rattle.comp_graph.specs.Games.{game_of}
use Rattle.window_steps.specs.Sets.{window_of}
use Rattle.window_floor.proofs.GroupLaws.{alike_test}
use Rattle.window_floor.proofs.grouping.alike.Given as goal

abbrev pub invariant-loop-u : goal.invariant-loop-u
invariant-loop-u l = record {
  below : l.u ≤ l.u-end;
  found : l.found ≡ set_below (alike_test (game_of l.game) (window_of l.window) l.v) l.u;
}
