use Rattle.std.proofs.Common.{ap, ◌∙◌}
use Rattle.std.specs.FinSet.{union, difference}
use Rattle.comp_graph.specs.Dags.{live_of}
use Rattle.comp_graph.specs.Graphs.{dag_of}
use Rattle.comp_graph.specs.Games.{game_of}
use Rattle.comp_graph.proofs.GraphLaws.{IsDag-dag_of}
use Rattle.window_steps.specs.Sets.{window_of}
use Rattle.window_floor.proofs.WindowLaws.{required_within}
use Rattle.window_floor.proofs.testing.are_required.Goals as goal

pub returns : goal.returns
returns c =
    let live = c.live.ensures.value ∙ ap (λ g. live_of (dag_of g)) c.graph-2.ensures.value in
    let others = c.union-others.ensures ∙ ap (λ s. union s c.args.window.now.stores) (c.in_set.ensures ∙ ap (λ g. (dag_of g).inputs) c.graph.ensures.value) in
    required_within (game_of c.args.game.now) (IsDag-dag_of c.args.game.now.graph c.graph.ensures.valid.valid) (window_of c.args.window.now) c.within.result c.minus.result
    (c.minus.ensures ∙ (λ i. difference (live i) (others i))) c.within.ensures
