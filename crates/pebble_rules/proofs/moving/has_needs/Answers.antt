use Rattle.std.proofs.Common.{◌<◌, length, ap, ◌∙◌, subst, arith}
use Rattle.std.proofs.lemmas.Bool.Decides.{nat_tests}
use Rattle.comp_graph.specs.Graphs.{dag_of}
use Rattle.pebble_rules.specs.Refusals.{vertex_of}
use Rattle.pebble_rules.proofs.Calls.{compute_met, compute_unmet}
use Rattle.pebble_rules.proofs.moving.has_needs.Goals as goal

pub returns-then-v-inputs : goal.returns-then-v-inputs
returns-then-v-inputs c =
    let game = c.args.game.now in
    compute_met game c.graph-graph.ensures.valid.valid c.args.position.now c.args.mv c.in-Compute.v c.inputs.result c.preds.result c.within.result c.in-Compute.is
    (subst (λ m. vertex_of m < length game.graph.nodes) c.in-Compute.is c.requires)
    (c.inputs.ensures.value ∙ ap (λ g. length g.names) c.graph-graph.ensures.value)
    c.if-v-inputs.true
    (c.preds.ensures ∙ ap (λ g. (dag_of g).preds c.in-Compute.v) c.graph-graph.ensures.value)
    c.within.ensures

pub returns-else-v-inputs : goal.returns-else-v-inputs
returns-else-v-inputs c =
    compute_unmet c.args.game.now c.graph-graph.ensures.valid.valid c.args.position.now c.args.mv c.in-Compute.v c.inputs.result _ c.in-Compute.is
    (grind (arith, nat_tests))
    (c.inputs.ensures.value ∙ ap (λ g. length g.names) c.graph-graph.ensures.value)
    c.if-v-inputs.false
