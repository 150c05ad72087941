-- The game on the part is one.
use Rattle.std.proofs.Common.{length, sym, ap, ◌∙◌, subst, arith}
use Rattle.comp_graph.specs.Vertices.{AllBelow}
use Rattle.comp_graph.specs.Dags.{degree}
use Rattle.comp_graph.specs.Graphs.{IsGraph, dag_of}
use Rattle.part_bounds.specs.Induced.{induced}
use Rattle.part_bounds.proofs.Games.{games_are_induced}
use Rattle.part_bounds.proofs.inducing.cut_game.Goals as goal

pub cut_graph-requires-clause-valid : goal.cut_graph-requires-clause-valid
cut_graph-requires-clause-valid c = subst IsGraph (sym c.graph.ensures.value) c.graph.ensures.valid.valid

pub cut_graph-requires-clause-below : goal.cut_graph-requires-clause-below
cut_graph-requires-clause-below c = subst (λ g. AllBelow (length g.nodes) c.args.part.now) (sym c.graph.ensures.value) c.requires

pub unreachable-requires : goal.unreachable-requires
unreachable-requires c =
    let made = c.in_ok-graph.ensures ∙ ap (λ g. induced g c.args.part.now) c.graph.ensures.value in
    let same_degree = ap (λ g. degree (dag_of g)) made in
    let room = (games_are_induced c.args.game.now c.graph.ensures.valid c.args.part.now c.requires).game.room in
    let slots = c.slots-slots.ensures.value in
    let small = c.in-Err.ensures.small in
    omega arith
