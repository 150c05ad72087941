-- The victim is a spare vertex, and the step is the one that the rules give.
use Rattle.std.proofs.Common.{◌<◌, length, sym, subst}
use Rattle.comp_graph.specs.Graphs.{dag_of}
use Rattle.comp_graph.specs.Games.{game_of}
use Rattle.comp_graph.proofs.GraphLaws.{IsDag-dag_of}
use Rattle.first_plan.proofs.NextUses.{wanted_vertex}
use Rattle.first_plan.proofs.Turns.{spare_below, spare_member}
use Rattle.first_plan.proofs.Calls.{vertices_below, some_spare, victim_found, missed_is, removal_spills, removal_drops}
use Rattle.first_plan.proofs.victims.removal.Goals as goal

pub preds-requires : goal.preds-requires
preds-requires c =
    let dag = IsDag-dag_of c.args.game.now.graph c.graph-graph.ensures.valid.valid in
    subst (λ x. c.args.turn.now.vertex < length x.nodes) (sym c.graph-graph.ensures.value) (wanted_vertex (dag_of c.args.game.now.graph) dag c.args.turn.now.vertex c.requires.turn.planned)

pub last_needed-victim-requires-clause-below : goal.last_needed-victim-requires-clause-below
last_needed-victim-requires-clause-below c =
    let valid = c.graph-graph.ensures.valid in
    let dag = IsDag-dag_of c.args.game.now.graph valid.valid in
    vertices_below c.args.game.now c.graph-graph.result.now c.args.position.now c.args.turn.now.vertex c.preds.result c.minus-spare.result c.graph-graph.ensures.value c.preds.ensures c.minus-spare.ensures
    (spare_below (game_of c.args.game.now) dag valid.room c.args.turn.now.vertex c.requires.turn.planned c.args.position.now c.requires.ready)

pub last_needed-victim-requires-clause-some : goal.last_needed-victim-requires-clause-some
last_needed-victim-requires-clause-some c =
    let valid = c.graph-graph.ensures.valid in
    let dag = IsDag-dag_of c.args.game.now.graph valid.valid in
    let one = spare_member (game_of c.args.game.now) dag valid.room c.args.turn.now.vertex c.requires.turn.planned c.args.position.now c.requires.ready c.requires.short in
    some_spare c.args.game.now c.graph-graph.result.now c.args.position.now c.args.turn.now.vertex c.preds.result c.minus-spare.result c.graph-graph.ensures.value c.preds.ensures c.minus-spare.ensures one.0 one.1

pub is_missed-requires : goal.is_missed-requires
is_missed-requires c =
    let valid = c.graph-graph.ensures.valid in
    let dag = IsDag-dag_of c.args.game.now.graph valid.valid in
    let below = vertices_below c.args.game.now c.graph-graph.result.now c.args.position.now c.args.turn.now.vertex c.preds.result c.minus-spare.result c.graph-graph.ensures.value c.preds.ensures c.minus-spare.ensures
    (spare_below (game_of c.args.game.now) dag valid.room c.args.turn.now.vertex c.requires.turn.planned c.args.position.now c.requires.ready) in
    below.below c.last_needed-victim.result.vertex c.last_needed-victim.ensures.member

pub returns-then-is_missed : goal.returns-then-is_missed
returns-then-is_missed c =
    let u = c.last_needed-victim.result.vertex in
    let found = victim_found c.args.game.now c.graph-graph.result.now c.args.position.now c.args.turn.now.vertex c.preds.result c.minus-spare.result c.graph-graph.ensures.value c.preds.ensures c.minus-spare.ensures
    u c.last_needed-victim.ensures.vertex in
    let missed = missed_is c.args.game.now c.graph-graph.result.now c.args.position.now c.args.turn.now.vertex c.preds.result c.minus-spare.result c.graph-graph.ensures.value c.preds.ensures c.minus-spare.ensures
    u c.last_needed-victim.result.next_use c.is_missed.result c.last_needed-victim.ensures.next_use c.is_missed.ensures in
    removal_spills (game_of c.args.game.now) c.args.position.now c.args.turn.now.vertex u c.is_missed.result found missed c.if-is_missed.true

pub returns-else-is_missed : goal.returns-else-is_missed
returns-else-is_missed c =
    let u = c.last_needed-victim.result.vertex in
    let found = victim_found c.args.game.now c.graph-graph.result.now c.args.position.now c.args.turn.now.vertex c.preds.result c.minus-spare.result c.graph-graph.ensures.value c.preds.ensures c.minus-spare.ensures
    u c.last_needed-victim.ensures.vertex in
    let missed = missed_is c.args.game.now c.graph-graph.result.now c.args.position.now c.args.turn.now.vertex c.preds.result c.minus-spare.result c.graph-graph.ensures.value c.preds.ensures c.minus-spare.ensures
    u c.last_needed-victim.result.next_use c.is_missed.result c.last_needed-victim.ensures.next_use c.is_missed.ensures in
    removal_drops (game_of c.args.game.now) c.args.position.now c.args.turn.now.vertex u c.is_missed.result found missed c.if-is_missed.false
