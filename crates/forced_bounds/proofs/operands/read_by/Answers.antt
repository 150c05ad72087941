use Rattle.std.proofs.Common.{◌≡◌, ◌<◌, [], ap, ◌∙◌, sym, subst, arith, length, take, Some, slice_get}
use Rattle.std.specs.List.{All, slice_index_or}
use Rattle.std.proofs.lemmas.Option.{slice_get-get_or}
use Rattle.comp_graph.specs.declared.node.Node.{Node}
use Rattle.comp_graph.specs.declared.operation.Op.TheVariants.{Input}
use Rattle.comp_graph.specs.Operations.{arity_of}
use Rattle.comp_graph.specs.Graphs.{vertices_of, IsOperandBelow}
use Rattle.comp_graph.proofs.GraphLaws.{preds_of-node}
use Rattle.forced_bounds.proofs.OperandLaws.{all_weaker}
use Rattle.forced_bounds.proofs.operands.read_by.Goals as goal

pub returns-clause-preds : goal.returns-clause-preds
returns-clause-preds c =
    let nodes = c.nodes-nodes.result.now in
    let v = c.args.v in
    let d : Node = record { op = Input; args = [] } in
    let n = slice_index_or nodes v d in
    let many = ap length c.nodes-nodes.ensures.value in
    let below : v < length nodes = let l = c.requires in omega arith in
    let is_node : slice_get c.args.graph.now.nodes v ≡ Some n = ap (λ xs. slice_get xs v) (sym c.nodes-nodes.ensures.value) ∙ slice_get-get_or nodes v d below in
    ap (λ k. vertices_of (take k n.args)) c.arity-arity.ensures ∙ sym (preds_of-node c.args.graph.now v n is_node)

pub returns-clause-below : goal.returns-clause-below
returns-clause-below c =
    let nodes = c.nodes-nodes.result.now in
    let v = c.args.v in
    let d : Node = record { op = Input; args = [] } in
    let n = slice_index_or nodes v d in
    let many = ap length c.nodes-nodes.ensures.value in
    let below : v < length nodes = let l = c.requires in omega arith in
    let is_node : slice_get c.args.graph.now.nodes v ≡ Some n = ap (λ xs. slice_get xs v) (sym c.nodes-nodes.ensures.value) ∙ slice_get-get_or nodes v d below in
    let few = c.nodes-nodes.ensures.valid.small in
    subst (λ k. All (IsOperandBelow 256) (take k n.args)) (sym c.arity-arity.ensures)
    (all_weaker v (take (arity_of n.op) n.args) (omega arith) (c.nodes-nodes.ensures.valid.nodes v n is_node).below)
