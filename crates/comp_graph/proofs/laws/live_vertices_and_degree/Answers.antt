use Rattle.comp_graph.proofs.DagLaws.{live_by_paths, degree_is_greatest}
use Rattle.comp_graph.proofs.laws.live_vertices_and_degree.Goals as goal

pub returns-clause-live : goal.returns-clause-live
returns-clause-live c = live_by_paths

pub returns-clause-degree : goal.returns-clause-degree
returns-clause-degree c = degree_is_greatest
