-- What the ends of reading, of the walk and of the values say of the text.
use Rattle.std.proofs.Common.{◌≡◌, Err, IfErr, rules, sym, subst}
use Rattle.command_answers.specs.Accepted.{EndMeans, end_of_text, end_of_shape}
use Rattle.command_answers.proofs.Accepting.{end_means, walk_end_means, graph_end_means}
use Rattle.command_answers.proofs.kernel.accept.Goals as goal

pub returns-in_err-kernel-clause-fault : goal.returns-in_err-kernel-clause-fault
returns-in_err-kernel-clause-fault c =
    let e = c.in_err-kernel.field-0.0 in
    let is : c.from_residual.result ≡ Err (end_of_text e) = search rules in
    subst (λ r. IfErr r (EndMeans c.args.text.now)) (sym is) (end_means c.args.text.now e c.in_err-kernel.ensures.fault)

pub returns-in_err-flats-clause-fault : goal.returns-in_err-flats-clause-fault
returns-in_err-flats-clause-fault c =
    let e = c.in_err-flats.field-0.0 in
    let is : c.from_residual-in_err-flats.result ≡ Err (end_of_shape e) = search rules in
    subst (λ r. IfErr r (EndMeans c.args.text.now)) (sym is) (walk_end_means c.args.text.now c.in_ok-kernel.kernel e c.in_ok-kernel.ensures.reads c.in_err-flats.ensures.walk)

pub returns-in_err-graph-clause-fault : goal.returns-in_err-graph-clause-fault
returns-in_err-graph-clause-fault c =
    let e = c.in_err-graph.field-0.0 in
    let is : c.from_residual-in_err-graph.result ≡ Err (end_of_shape e) = search rules in
    subst (λ r. IfErr r (EndMeans c.args.text.now)) (sym is) (graph_end_means c.args.text.now c.in_ok-kernel.kernel e c.in_ok-kernel.ensures.reads c.in_err-graph.ensures)
