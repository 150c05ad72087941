use Rattle.std.proofs.Common.{◌≡◌, ap, ◌∙◌, sym, arith, length, take, Some, slice_get}
use Rattle.std.proofs.lemmas.Option.{slice_get-get_or}
use Rattle.comp_graph.specs.Graphs.{GraphParts, vertices_of, preds_of}
use Rattle.comp_graph.proofs.GraphLaws.{preds_of-node}
use Rattle.comp_graph.proofs.graph_lists.GraphLists.preds.Goals as goal

pub returns : goal.returns
returns c =
    let n = c.index-node.result.now in
    let within = ap (λ (g : GraphParts). length g.nodes) c.self.view_is in
    let is_node : slice_get c.self.inside.nodes.items c.args.v ≡ Some n =
    slice_get-get_or c.self.inside.nodes.items c.args.v n (omega (arith, c.requires, within)) ∙ ap Some (sym c.index-node.ensures) in
    c.vertices.ensures
    ∙ ap (λ k. vertices_of (take k n.args)) c.arity-arity.ensures
    ∙ sym (preds_of-node _ c.args.v n is_node)
    ∙ ap (λ (g : GraphParts). preds_of g c.args.v) c.self.view_is
