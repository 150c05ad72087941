use Rattle.std.proofs.Common.{◌≡◌, take, map}
use Rattle.std.specs.FinSet as set
use Rattle.comp_graph.proofs.graph_lists.GraphLists.out_set.Given as goal

abbrev pub invariant-loop-output : goal.invariant-loop-output
invariant-loop-output l = l.outputs ≡ set.from_list (map (λ o. o.vertex) (take l.output-index l.output-items))
