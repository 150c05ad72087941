-- The laws of the graphs of kernels, as the lemmas show them.
use Rattle.three_address.proofs.KernelGraphLaws.{IsGraph-graph_of, IsLabelled-graph_of, outputs-graph_of, fault_of-graph_of, graph_of-walk}
use Rattle.three_address.proofs.SmallConstants.{constants_are_small}
use Rattle.three_address.proofs.laws.kernel_graphs.Goals as goal

pub returns-clause-graphs : goal.returns-clause-graphs
returns-clause-graphs c = IsGraph-graph_of

pub returns-clause-labels : goal.returns-clause-labels
returns-clause-labels c = IsLabelled-graph_of

pub returns-clause-meaning : goal.returns-clause-meaning
returns-clause-meaning c = outputs-graph_of

pub returns-clause-faults : goal.returns-clause-faults
returns-clause-faults c = fault_of-graph_of

pub returns-clause-walk : goal.returns-clause-walk
returns-clause-walk c = graph_of-walk

pub returns-clause-constants : goal.returns-clause-constants
returns-clause-constants c = constants_are_small
