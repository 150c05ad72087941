use Rattle.std.proofs.Common.{sym, ap, ◌∙◌, subst}
use Rattle.comp_graph.specs.Games.{game_of}
use Rattle.comp_graph.proofs.GraphLaws.{IsDag-dag_of}
use Rattle.window_laws.specs.Floors.{IsFloorAt}
use Rattle.window_steps.specs.Sets.{window_of}
use Rattle.window_floor.specs.Counting.{none_counted, counted}
use Rattle.window_floor.proofs.ConeLaws.{window_floor_holds}
use Rattle.window_floor.proofs.FloorSums.{floor_is}
use Rattle.window_floor.proofs.evaluating.floor.Goals as goal

pub returns-clause-exact : goal.returns-clause-exact
returns-clause-exact c =
    let g = game_of c.args.game.now in
    let w = window_of c.args.window.now in
    let p = c.args.position.now in
    floor_is g w p c.args.made.now.groups.items c.count_entries-entries.result c.all_cones-all.result c.cones_apart-apart.result c.total-by_cones.result c.total-by_entries.result c.max.result
    (c.count_entries-entries.ensures.value ∙ ap (counted g w p none_counted) c.deref.ensures.value) c.requires.made.groups
    c.all_cones-all.ensures.value c.cones_apart-apart.ensures.value
    c.total-by_cones.ensures.value c.total-by_entries.ensures.value c.max.ensures

pub returns-clause-floor : goal.returns-clause-floor
returns-clause-floor c =
    let g = game_of c.args.game.now in
    let w = window_of c.args.window.now in
    let p = c.args.position.now in
    subst (IsFloorAt g w p) (sym (returns-clause-exact c))
    (window_floor_holds g (IsDag-dag_of c.args.game.now.graph c.demanded-needed.ensures.valid) w c.requires.window p)
