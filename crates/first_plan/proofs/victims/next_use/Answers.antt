-- The readers that are ahead are the later uses, and the next use is the least of them.
use Rattle.std.proofs.Common.{get_or, sym, ap, ◌∙◌, subst}
use Rattle.std.specs.FinSet.{contains}
use Rattle.comp_graph.specs.Vertices.{AllBelow}
use Rattle.comp_graph.specs.Graphs.{dag_of}
use Rattle.comp_graph.proofs.GraphLaws.{IsDag-dag_of}
use Rattle.first_plan.specs.Passing.{least_passing}
use Rattle.first_plan.proofs.NextUses.{has_uses, uses_below, least_is_next}
use Rattle.first_plan.proofs.victims.next_use.Goals as goal

pub least_or-requires : goal.least_or-requires
least_or-requires c =
    let d = dag_of c.args.graph.now in
    let dag = IsDag-dag_of c.args.graph.now c.len.ensures.valid in
    let uses = has_uses d dag c.args.turn.now.vertex c.args.u (get_or c.args.turn.now.readers.now c.args.u c.index-turn-u.result) c.args.turn.now.ahead c.meet-uses.result
    (c.requires.turn.reads.each c.args.u c.requires.vertex c.index-turn-u.result) c.requires.turn.after c.meet-uses.ensures in
    subst (λ n. AllBelow n c.meet-uses.result) (sym c.len.ensures.value) (uses_below d dag c.args.turn.now.vertex c.args.u c.meet-uses.result uses)

pub returns : goal.returns
returns c =
    let d = dag_of c.args.graph.now in
    let dag = IsDag-dag_of c.args.graph.now c.len.ensures.valid in
    let uses = has_uses d dag c.args.turn.now.vertex c.args.u (get_or c.args.turn.now.readers.now c.args.u c.index-turn-u.result) c.args.turn.now.ahead c.meet-uses.result
    (c.requires.turn.reads.each c.args.u c.requires.vertex c.index-turn-u.result) c.requires.turn.after c.meet-uses.ensures in
    least_is_next d c.args.turn.now.vertex c.args.u c.least_or.result c.meet-uses.result uses
    (c.least_or.ensures ∙ ap (λ n. least_passing n (contains c.meet-uses.result)) c.len.ensures.value)
