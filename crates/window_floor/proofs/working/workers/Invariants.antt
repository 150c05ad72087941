use Rattle.std.proofs.Common.{◌≡◌, ◌≤◌}
use Rattle.comp_graph.specs.Vertices.{set_below}
use Rattle.comp_graph.specs.Games.{game_of}
use Rattle.window_steps.specs.Sets.{window_of}
use Rattle.window_floor.specs.Workers.{is_worker}
use Rattle.window_floor.proofs.working.workers.Given as goal

abbrev pub invariant-loop-v : goal.invariant-loop-v
invariant-loop-v l = record { below : l.v ≤ l.v-end; found : l.found ≡ set_below (is_worker (game_of l.game) (window_of l.window)) l.v }
