-- Each step is a removal of the rules, and takes a red pebble.
use Rattle.std.proofs.Common.{rules, ◌≡◌, [], ◌∷◌, ◌++◌, sym, ◌∙◌}
use Rattle.comp_graph.specs.Graphs.{dag_of}
use Rattle.comp_graph.specs.Games.{game_of}
use Rattle.comp_graph.proofs.GraphLaws.{IsDag-dag_of}
use Rattle.first_plan.proofs.NextUses.{wanted_vertex}
use Rattle.first_plan.proofs.Calls.{removal_step, removal_takes, room_more, room_steps_made, room_reached}
use Rattle.first_plan.proofs.planning.make_room.Goals as goal

pub is_short-requires : goal.is_short-requires
is_short-requires c = wanted_vertex (dag_of c.args.game.now.graph) (IsDag-dag_of c.args.game.now.graph c.requires.valid.valid) c.args.turn.now.vertex c.requires.turn.planned

pub after-position-requires : goal.after-position-requires
after-position-requires c =
    removal_step (game_of c.args.game.now) (IsDag-dag_of c.args.game.now.graph c.requires.valid.valid) c.requires.valid.room c.args.turn.now.vertex c.requires.turn.planned c.loop-position.position c.removal-step.result
    c.loop-position.invariant.ready (sym c.is_short.ensures ∙ c.loop-position-test.true) c.removal-step.ensures

pub loop-position-smaller : goal.loop-position-smaller
loop-position-smaller c =
    removal_takes (game_of c.args.game.now) (IsDag-dag_of c.args.game.now.graph c.requires.valid.valid) c.requires.valid.room c.args.turn.now.vertex c.requires.turn.planned c.loop-position.position c.after-position.result
    c.removal-step.result c.loop-position.invariant.ready (sym c.is_short.ensures ∙ c.loop-position-test.true) c.removal-step.ensures c.after-position.ensures

pub loop-position-preserved : goal.loop-position-preserved
loop-position-preserved c =
    let pushed : c.push.new.self.items ≡ c.loop-position.steps.items ++ c.removal-step.result ∷ [] = search rules in
    room_more (game_of c.args.game.now) (IsDag-dag_of c.args.game.now.graph c.requires.valid.valid) c.requires.valid.room c.args.turn.now.vertex c.requires.turn.planned c.loop-position.position c.after-position.result
    c.removal-step.result c.loop-position.steps.items c.push.new.self.items _ _ c.loop-position.invariant (sym c.is_short.ensures ∙ c.loop-position-test.true) c.removal-step.ensures c.after-position.ensures pushed

pub returns-clause-steps : goal.returns-clause-steps
returns-clause-steps c =
    room_steps_made (game_of c.args.game.now) c.args.turn.now.vertex c.loop-position.position c.loop-position.steps.items _ _ c.loop-position.invariant (sym c.is_short.ensures ∙ c.loop-position-test.false)

pub returns-clause-position : goal.returns-clause-position
returns-clause-position c =
    room_reached (game_of c.args.game.now) c.args.turn.now.vertex c.loop-position.position c.loop-position.steps.items _ _ c.loop-position.invariant (sym c.is_short.ensures ∙ c.loop-position-test.false)
