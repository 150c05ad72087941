use Rattle.std.proofs.Common.{ap, ◌∙◌}
use Rattle.std.specs.FinSet.{contains}
use Rattle.comp_graph.specs.Dags.{live_of}
use Rattle.comp_graph.specs.Graphs.{dag_of}
use Rattle.comp_graph.proofs.Live.{has_live_of}
use Rattle.comp_graph.proofs.GraphLaws.{IsDag-dag_of}
use Rattle.window_floor.proofs.working.is_live.Goals as goal

pub returns : goal.returns
returns c =
    let graph = c.args.game.now.graph in
    c.has.ensures.value
    ∙ ap (λ s. contains s c.args.v) (c.live.ensures.value ∙ ap (λ g. live_of (dag_of g)) c.graph.ensures.value)
    ∙ has_live_of (dag_of graph) (IsDag-dag_of graph c.graph.ensures.valid.valid) c.args.v
