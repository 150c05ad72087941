use Rattle.std.proofs.Common.{◌<◌, length, sym, subst, arith}
use Rattle.normal_steps.proofs.Workable.{work_vertex}
use Rattle.normal_steps.proofs.stepping.after.Goals as goal

pub preds-requires : goal.preds-requires
preds-requires c =
    subst (λ g. c.in-Work.v < length g.nodes) (sym c.graph.ensures.value)
    (work_vertex c.args.game.now c.graph.ensures.valid.valid c.args.position.now c.args.step c.in-Work.v c.in-Work.is c.requires)

pub with-requires : goal.with-requires
with-requires c =
    let vertex = work_vertex c.args.game.now c.graph.ensures.valid.valid c.args.position.now c.args.step c.in-Work.v c.in-Work.is c.requires in
    let small = c.graph.ensures.valid.valid.small in
    omega arith
