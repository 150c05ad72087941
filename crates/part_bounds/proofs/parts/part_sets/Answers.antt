-- Each vertex joins the set of its part.
use Rattle.std.proofs.Common.{length, ap, arith}
use Rattle.part_bounds.proofs.Calls.{no_vertex_yet, vertex_joins, all_joined}
use Rattle.part_bounds.proofs.parts.part_sets.Goals as goal

pub loop-v-init : goal.loop-v-init
loop-v-init c = no_vertex_yet c.args.game.now.graph c.args.parts c.empty.result c.in_ok-sets.sets.items c.empty.ensures (c.in_ok-sets.ensures.items_if_clones_equal (λ y e. e))

pub loop-v-preserved : goal.loop-v-preserved
loop-v-preserved c =
    vertex_joins c.args.game.now.graph c.args.parts c.loop-v.v c.part_of-k.result c.loop-v.sets.items c.index.result.now c.with.result c.loop-v.invariant
    c.part_of-k.ensures.part c.part_of-k.ensures.below c.index.ensures c.with.ensures

pub returns : goal.returns
returns c =
    all_joined c.args.game.now.graph c.args.parts c.loop-v.v c.loop-v.sets.items c.loop-v.invariant
    (let end = c.len-v-end.ensures.value in let graph = ap (λ g. length g.nodes) c.graph-graph.ensures.value in let past = c.loop-v-test.false in let below = c.loop-v.auto.v-end in omega arith)
