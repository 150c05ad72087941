use Rattle.std.proofs.Common.{length, ap, ◌∙◌}
use Rattle.normal_steps.proofs.Workable.{no_vertex}
use Rattle.normal_steps.proofs.stepping.legal.Goals as goal

pub returns-else-v-len : goal.returns-else-v-len
returns-else-v-len c =
    no_vertex c.args.game.now c.graph.ensures.valid.valid c.args.position.now c.args.step c.in-Work.v c.len.result c.in-Work.is
    (c.len.ensures.value ∙ ap (λ g. length g.nodes) c.graph.ensures.value) c.if-v-len.false
