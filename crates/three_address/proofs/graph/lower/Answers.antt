-- What is made step by step from the executed assignments is the graph of the kernel.
use Rattle.std.proofs.Common.{◌∙◌, sym, subst, Err}
use Rattle.kernel_walk.specs.Outcomes as outcomes
use Rattle.loop_unroll.proofs.Ended.{answers_end}
use Rattle.three_address.proofs.GraphLowered.{lowered_graph}
use Rattle.three_address.proofs.graph.lower.Goals as goal

pub returns-in-Ok : goal.returns-in-Ok
returns-in-Ok c = sym (lowered_graph c.args.kernel.now c.args.flats.now c.graph_from.ensures.well_formed c.requires) ∙ c.in-Ok.ensures.value

pub returns-in-Err : goal.returns-in-Err
returns-in-Err c =
    answers_end _ c.in-Err.stop c.into.result c.into.ensures
    (subst (λ o. outcomes.Answers o (Err c.in-Err.stop)) (lowered_graph c.args.kernel.now c.args.flats.now c.graph_from.ensures.well_formed c.requires) c.in-Err.ensures.value)
