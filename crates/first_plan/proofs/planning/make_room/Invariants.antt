-- Room is being made, and each step takes a red pebble.
use Rattle.std.proofs.Common.{◌++◌}
use Rattle.comp_graph.specs.Vertices.{size}
use Rattle.comp_graph.specs.Games.{game_of}
use Rattle.normal_steps.specs.Steps.{play_after}
use Rattle.first_plan.specs.FirstPlan.{room_steps}
use Rattle.first_plan.proofs.Calls.{IsMakingRoom}
use Rattle.first_plan.proofs.planning.make_room.Given as goal

abbrev pub invariant-loop-position : goal.invariant-loop-position
invariant-loop-position l =
    IsMakingRoom (game_of l.game) l.turn.vertex l.position l.steps.items (l.initial.steps.items ++ room_steps (game_of l.game) l.turn.vertex l.initial.position)
    (play_after (game_of l.game) l.initial.position (room_steps (game_of l.game) l.turn.vertex l.initial.position))

abbrev pub decreases-loop-position : goal.decreases-loop-position
decreases-loop-position l = size l.position.red
