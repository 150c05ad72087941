use Rattle.std.proofs.Common.{ap, ◌∙◌, sym, map}
use Rattle.std.specs.FinSet as set
use Rattle.comp_graph.specs.Graphs.{outputs_of}
use Rattle.comp_graph.proofs.GraphLaws.{outputs_more, outputs_all}
use Rattle.comp_graph.proofs.graph_lists.GraphLists.out_set.Goals as goal

pub loop-output-preserved : goal.loop-output-preserved
loop-output-preserved c = c.with-outputs.ensures ∙ ap (λ s. set.insert s c.output-item.result.vertex) c.loop-output.invariant ∙ sym (outputs_more _ _ _ c.loop-output-test.true c.output-item.is)

pub returns : goal.returns
unfolding outputs_of
returns c =
    c.loop-output.invariant
    ∙ outputs_all _ _ c.loop-output-test.false
    ∙ ap (λ l. set.from_list (map (λ o. o.vertex) l)) c.deref-output-items.ensures.value
    ∙ ap outputs_of c.self.view_is
