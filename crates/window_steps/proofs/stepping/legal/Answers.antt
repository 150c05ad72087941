use Rattle.std.proofs.Common.{length, ap, ◌∙◌}
use Rattle.comp_graph.specs.Games.{game_of}
use Rattle.window_steps.specs.Sets.{window_of}
use Rattle.window_steps.proofs.Calls.{work_tested, no_vertex}
use Rattle.window_steps.proofs.stepping.legal.Goals as goal

pub returns-then-v-len : goal.returns-then-v-len
returns-then-v-len c =
    work_tested (game_of c.args.game.now) (window_of c.args.window.now) c.args.position.now c.args.step c.in-Work.v c.is_workable.result c.in-Work.is c.is_workable.ensures

pub returns-else-v-len : goal.returns-else-v-len
returns-else-v-len c =
    no_vertex c.args.game.now c.graph.ensures.valid.valid (window_of c.args.window.now) c.args.position.now c.args.step c.in-Work.v c.len.result c.in-Work.is
    (c.len.ensures.value ∙ ap (λ g. length g.nodes) c.graph.ensures.value) c.if-v-len.false
