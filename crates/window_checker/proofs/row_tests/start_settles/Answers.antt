use Rattle.std.proofs.Common.{◌↔◌, IsTrue, ap, ◌∙◌, subst}
use Rattle.std.specs.FinSet as set
use Rattle.comp_graph.specs.Graphs.{dag_of}
use Rattle.window_checker.specs.Readiness.{IsSettledIn}
use Rattle.window_checker.proofs.row_tests.start_settles.Goals as goal

pub returns : goal.returns
returns c =
    let g = c.args.game.now in
    let w = c.args.window.now in
    let inputs = c.in_set.ensures ∙ ap (λ x. (dag_of x).inputs) c.graph.ensures.value in
    let blue = c.meet.ensures ∙ ap (λ s. set.intersection s w.tracked) inputs in
    subst (λ s. IsTrue c.is_settled.result ↔ IsSettledIn g w c.args.table.now (record { red = set.empty; blue = s }) 0) blue
    (subst (λ s. IsTrue c.is_settled.result ↔ IsSettledIn g w c.args.table.now (record { red = s; blue = c.meet.result }) 0) c.empty.ensures c.is_settled.ensures)
