use Rattle.std.proofs.Common.{ap, ◌∙◌, sym, true, arith}
use Rattle.std.specs.FinSet as set
use Rattle.comp_graph.specs.Vertices.{set_below}
use Rattle.comp_graph.proofs.GraphLaws.{inputs_of-first, set_below-next}
use Rattle.comp_graph.proofs.graph_lists.GraphLists.in_set.Goals as goal

pub loop-v-init : goal.loop-v-init
unfolding set_below
loop-v-init c = c.empty-inputs.ensures

pub loop-v-preserved : goal.loop-v-preserved
loop-v-preserved c = c.with-inputs.ensures ∙ ap (λ s. set.insert s c.loop-v.v) c.loop-v.invariant ∙ sym (set_below-next c.loop-v.v)

pub returns : goal.returns
returns c = c.loop-v.invariant ∙ ap (set_below (λ v. true)) (omega (arith, c.inputs-v-end.ensures.value)) ∙ inputs_of-first c.args.self.now c.inputs-v-end.ensures.valid
