use Rattle.comp_graph.proofs.GraphLaws.{IsDag-dag_of}
use Rattle.comp_graph.proofs.laws.graphs_are_dags.Goals as goal

pub returns : goal.returns
returns c = IsDag-dag_of
