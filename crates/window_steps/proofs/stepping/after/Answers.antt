use Rattle.std.proofs.Common.{◌<◌, length, sym, subst}
use Rattle.window_steps.specs.Sets.{window_of}
use Rattle.window_steps.proofs.Calls.{work_vertex, work_number}
use Rattle.window_steps.proofs.stepping.after.Goals as goal

pub preds-requires : goal.preds-requires
preds-requires c =
    subst (λ g. c.in-Work.v < length g.nodes) (sym c.graph.ensures.value)
    (work_vertex c.args.game.now c.graph.ensures.valid.valid (window_of c.args.window.now) c.args.position.now c.args.step c.in-Work.v c.in-Work.is c.requires)

pub with-made-requires : goal.with-made-requires
with-made-requires c = work_number c.args.game.now c.graph.ensures.valid.valid (window_of c.args.window.now) c.args.position.now c.args.step c.in-Work.v c.in-Work.is c.requires

pub with_kept-requires : goal.with_kept-requires
with_kept-requires c = work_number c.args.game.now c.graph.ensures.valid.valid (window_of c.args.window.now) c.args.position.now c.args.step c.in-Work.v c.in-Work.is c.requires
