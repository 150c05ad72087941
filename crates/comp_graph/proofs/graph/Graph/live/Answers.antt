-- What is kept is what the lists give.
use Rattle.std.proofs.Common.{sym, subst}
use Rattle.comp_graph.specs.Dags.{IsLiveSet}
use Rattle.comp_graph.specs.Graphs.{dag_of}
use Rattle.comp_graph.proofs.Live.{live_of_is_live}
use Rattle.comp_graph.proofs.GraphLaws.{IsDag-dag_of}
use Rattle.comp_graph.proofs.graph.Graph.live.Goals as goal

pub returns-clause-paths : goal.returns-clause-paths
returns-clause-paths c =
    let lists = c.self.inside.lists in
    let kept = c.self.invariant in
    subst (λ g. IsLiveSet (dag_of g) c.self.inside.live) c.self.view_is
    (subst (IsLiveSet (dag_of lists)) (sym kept.live) (live_of_is_live (dag_of lists) (IsDag-dag_of lists kept.valid)))
