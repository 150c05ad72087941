-- What is kept is what the lists give.
use Rattle.std.proofs.Common.{sym, subst, arith}
use Rattle.comp_graph.specs.Dags.{IsDegree}
use Rattle.comp_graph.specs.Graphs.{dag_of}
use Rattle.comp_graph.proofs.DagLaws.{degree_is_greatest, degree_below}
use Rattle.comp_graph.proofs.GraphLaws.{IsDag-dag_of}
use Rattle.comp_graph.proofs.graph.Graph.degree.Goals as goal

pub returns-clause-greatest : goal.returns-clause-greatest
returns-clause-greatest c =
    let lists = c.self.inside.lists in
    let kept = c.self.invariant in
    subst (λ g. IsDegree (dag_of g) c.self.inside.degree) c.self.view_is
    (subst (IsDegree (dag_of lists)) (sym kept.degree_is) (degree_is_greatest (dag_of lists) (IsDag-dag_of lists kept.valid)))

pub returns-clause-small : goal.returns-clause-small
returns-clause-small c =
    let lists = c.self.inside.lists in
    let kept = c.self.invariant in
    omega (arith, kept.degree_is, degree_below (dag_of lists) (IsDag-dag_of lists kept.valid) 256 kept.valid.small (omega arith))
