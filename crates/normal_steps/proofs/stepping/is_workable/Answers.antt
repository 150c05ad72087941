use Rattle.std.proofs.Common.{length, sym, ap, ◌∙◌, subst, arith}
use Rattle.std.specs.FinSet.{insert}
use Rattle.comp_graph.specs.Vertices.{IsWithin}
use Rattle.comp_graph.specs.Graphs.{dag_of}
use Rattle.comp_graph.specs.Games.{game_of}
use Rattle.normal_steps.specs.Steps.{CanWork}
use Rattle.normal_steps.proofs.Workable.{not_for_input, not_for_dead, not_for_red, not_for_bare, refused, workable_by_room}
use Rattle.normal_steps.proofs.stepping.is_workable.Goals.{then-v-inputs-via-then-v-inputs, then-v-inputs-via-else-v-inputs+then-not-has, then-v-inputs-via-else-v-inputs+else-not-has+then-has}
use Rattle.normal_steps.proofs.stepping.is_workable.Goals as goal

pub returns-then-v-inputs : goal.returns-then-v-inputs
returns-then-v-inputs c =
    let game = c.args.game.now in
    let ok = c.graph-graph.ensures.valid.valid in
    let counted = c.inputs.ensures.value ∙ ap (λ g. length g.names) c.graph-graph.ensures.value in
    refused (CanWork (game_of game) c.args.position.now c.args.v)
    (elim c.then-v-inputs.branch [
      | then-v-inputs-via-then-v-inputs w ↦ not_for_input game ok c.args.position.now c.args.v (let early = w.if-v-inputs.true in omega arith)
      | then-v-inputs-via-else-v-inputs+then-not-has w ↦ not_for_dead game ok c.args.position.now c.args.v c.args.live.now c.requires.live (sym w.has.ensures.value ∙ w.if-not-has.true)
      | then-v-inputs-via-else-v-inputs+else-not-has+then-has w ↦ not_for_red game c.args.position.now c.args.v (sym w.has-else-not-has.ensures.value ∙ w.if-has.true)
    ])

pub returns-then-not-within : goal.returns-then-not-within
returns-then-not-within c =
    refused (CanWork (game_of c.args.game.now) c.args.position.now c.args.v)
    (not_for_bare c.args.game.now c.args.position.now c.args.v c.preds-preds.result c.union.result c.within.result
    (c.preds-preds.ensures ∙ ap (λ g. (dag_of g).preds c.args.v) c.graph-graph.ensures.value) c.union.ensures c.within.ensures c.if-not-within.true)

pub returns : goal.returns
returns c =
    let graph_is = c.graph-graph.ensures.value in
    let counted = c.inputs.ensures.value ∙ ap (λ g. length g.names) graph_is in
    workable_by_room c.args.game.now c.graph-graph.ensures.valid.valid c.args.position.now c.args.v c.args.live.now c.preds-preds.result c.with-worked.result c.count.result c.slots.result
    c.requires.live
    (sym c.has.ensures.value ∙ c.if-not-has.false)
    (let past = c.if-v-inputs.false in omega arith)
    (sym c.has-else-not-has.ensures.value ∙ c.if-has.false)
    (c.preds-preds.ensures ∙ ap (λ g. (dag_of g).preds c.args.v) graph_is)
    (subst (IsWithin c.preds-preds.result) c.union.ensures (c.within.ensures.0 c.if-not-within.false))
    (c.with-worked.ensures ∙ ap (λ s. insert s c.args.v) c.union-2.ensures)
    c.count.ensures.value
    c.slots.ensures.value
