-- A vertex that is still ahead has its turn, and another one none.
use Rattle.std.proofs.Common.{rules, ◌≡◌, ◌++◌, sym, ap, ◌∙◌, subst}
use Rattle.std.specs.FinSet.{difference}
use Rattle.comp_graph.specs.Dags.{live_of}
use Rattle.comp_graph.specs.Graphs.{dag_of}
use Rattle.comp_graph.specs.Games.{game_of}
use Rattle.comp_graph.proofs.GraphLaws.{IsDag-dag_of}
use Rattle.first_plan.specs.FirstPlan.{turn_steps}
use Rattle.first_plan.specs.Ready.{AreReaders}
use Rattle.first_plan.proofs.Calls.{AreDone, none_done, left_wanted, left_ahead, done_ready, done_turn, done_passed}
use Rattle.first_plan.proofs.planning.all_steps.Goals as goal
use Rattle.first_plan.proofs.planning.all_steps.Goals.{then-has+in_ok-position, else-has}

pub loop-v-init : goal.loop-v-init
loop-v-init c =
    let g = game_of c.args.game.now in
    subst (λ xs. AreDone g 0 xs c.start-position.result c.wanted_vertices-ahead.result) (sym c.new-steps.ensures.items)
    (none_done g (IsDag-dag_of c.args.game.now.graph c.graph-graph.ensures.valid.valid) c.start-position.result c.wanted_vertices-ahead.result c.start-position.ensures
    (c.wanted_vertices-ahead.ensures ∙ ap (λ x. difference (live_of (dag_of x)) (dag_of x).inputs) c.graph-graph.ensures.value))

pub take_turn-requires-clause-turn : goal.take_turn-requires-clause-turn
take_turn-requires-clause-turn c =
    let d = dag_of c.args.game.now.graph in
    record {
      planned = left_wanted d c.loop-v.v c.loop-v.ahead _ c.loop-v.invariant.left (sym c.has.ensures.value ∙ c.if-has.true);
      reads = subst (AreReaders d) (sym c.deref.ensures.value) (subst (λ x. AreReaders (dag_of x) c.in_ok-readers.readers.items) c.graph-graph.ensures.value c.in_ok-readers.ensures);
      after = left_ahead d c.loop-v.v c.loop-v.ahead c.without-ahead.result c.loop-v.invariant.left c.without-ahead.ensures;
    }

pub take_turn-requires-clause-ready : goal.take_turn-requires-clause-ready
take_turn-requires-clause-ready c =
    done_ready (game_of c.args.game.now) (IsDag-dag_of c.args.game.now.graph c.graph-graph.ensures.valid.valid) c.graph-graph.ensures.valid.room c.loop-v.v c.loop-v.steps.items c.loop-v.position c.loop-v.ahead c.loop-v.invariant

pub loop-v-preserved : goal.loop-v-preserved
loop-v-preserved c =
    let g = game_of c.args.game.now in
    elim c.if-has.branch [
      | then-has+in_ok-position w ↦
          let made : c.if-has.steps.items ≡ c.loop-v.steps.items ++ turn_steps g c.loop-v.v c.loop-v.position = search rules in
          done_turn g c.loop-v.v c.loop-v.steps.items c.if-has.steps.items c.loop-v.position c.if-has.position c.loop-v.ahead c.if-has.ahead c.loop-v.invariant (sym c.has.ensures.value ∙ w.if-has.true)
          (left_ahead g.dag c.loop-v.v c.loop-v.ahead c.if-has.ahead c.loop-v.invariant.left (w.ahead-is ∙ w.without-ahead.ensures))
          made (w.position-is ∙ w.in_ok-position.ensures.position)
      | else-has w ↦
          let kept : c.if-has.steps.items ≡ c.loop-v.steps.items = search rules in
          done_passed g c.loop-v.v c.loop-v.steps.items c.if-has.steps.items c.loop-v.position c.if-has.position c.loop-v.ahead c.if-has.ahead c.loop-v.invariant (sym c.has.ensures.value ∙ w.if-has.false)
          kept w.position-is w.ahead-is
    ]
