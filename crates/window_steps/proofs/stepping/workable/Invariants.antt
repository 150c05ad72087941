use Rattle.std.proofs.Common.{◌≡◌, ◌≤◌}
use Rattle.comp_graph.specs.Vertices.{set_below}
use Rattle.comp_graph.specs.Games.{game_of}
use Rattle.window_steps.specs.Sets.{window_of}
use Rattle.window_steps.specs.StepTests.{can_work_in}
use Rattle.window_steps.proofs.stepping.workable.Given as goal

abbrev pub invariant-loop-v : goal.invariant-loop-v
invariant-loop-v l = record { below : l.v ≤ l.v-end; works : l.works ≡ set_below (can_work_in (game_of l.game) (window_of l.window) l.position) l.v }
