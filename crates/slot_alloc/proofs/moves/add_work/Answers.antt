-- A vertex that Work is legal for is one of the graph's.
use Rattle.std.proofs.Common.{◌<◌, length, sym, subst}
use Rattle.slot_alloc.proofs.Calls.{work_vertex}
use Rattle.slot_alloc.proofs.moves.add_work.Goals as goal

pub preds-requires : goal.preds-requires
preds-requires c =
    subst (λ g. c.args.v < length g.nodes) (sym c.graph-graph.ensures.value) (work_vertex c.args.game.now c.graph-graph.ensures.valid.valid c.args.position.now c.args.v c.requires)
