-- Where room is made, the vertex can be worked on.
use Rattle.comp_graph.specs.Games.{game_of}
use Rattle.comp_graph.proofs.GraphLaws.{IsDag-dag_of}
use Rattle.first_plan.proofs.Calls.{work_step, turn_reached}
use Rattle.first_plan.proofs.planning.take_turn.Goals as goal

pub after-requires : goal.after-requires
after-requires c =
    work_step (game_of c.args.game.now) (IsDag-dag_of c.args.game.now.graph c.requires.valid.valid) c.requires.valid.room c.args.turn.now.vertex c.requires.turn.planned c.args.position c.in_ok-position.position c.requires.ready
    c.in_ok-position.ensures.position

pub returns-clause-position : goal.returns-clause-position
returns-clause-position c = turn_reached (game_of c.args.game.now) c.args.turn.now.vertex c.args.position c.in_ok-position.position c.after.result c.in_ok-position.ensures.position c.after.ensures
