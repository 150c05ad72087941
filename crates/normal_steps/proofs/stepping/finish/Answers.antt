use Rattle.std.proofs.Common.{ap, ◌∙◌}
use Rattle.comp_graph.specs.Graphs.{dag_of}
use Rattle.comp_graph.specs.Games.{game_of}
use Rattle.normal_steps.proofs.Finishing.{bare_is, bare_output, none_bare}
use Rattle.normal_steps.proofs.stepping.finish.Goals as goal

pub returns-in-Some-clause-bare : goal.returns-in-Some-clause-bare
returns-in-Some-clause-bare c =
    let g = game_of c.args.game.now in
    bare_output g c.args.position.now c.minus-bare.result c.in-Some.field-0
    (bare_is g c.args.position.now _ _ _ (c.out_set-outputs.ensures ∙ ap (λ g. (dag_of g).outputs) c.graph.ensures.value) c.union.ensures c.minus-bare.ensures)
    c.in-Some.ensures.value.member

pub returns-in-None-clause-finishes : goal.returns-in-None-clause-finishes
returns-in-None-clause-finishes c =
    let g = game_of c.args.game.now in
    none_bare g c.args.position.now c.minus-bare.result
    (bare_is g c.args.position.now _ _ _ (c.out_set-outputs.ensures ∙ ap (λ g. (dag_of g).outputs) c.graph.ensures.value) c.union.ensures c.minus-bare.ensures)
    c.in-None.ensures.value
