-- A member that is needed as late as the best so far, or later, takes its place.
use Rattle.std.proofs.Common.{◌+◌, ◌≤◌, length, sym, ◌∙◌, arith}
use Rattle.comp_graph.specs.Graphs.{dag_of}
use Rattle.comp_graph.proofs.Sets.{some_member}
use Rattle.first_plan.proofs.Chosen.{best_none, best_next, best_kept, best_passed, best_at, best_is, best_victim, best_use}
use Rattle.first_plan.proofs.victims.last_needed.Goals as goal
use Rattle.first_plan.proofs.victims.last_needed.Goals.{then-has+then-furthest-next_use, then-has+else-furthest-next_use, else-has}

pub loop-u-init : goal.loop-u-init
loop-u-init c = best_none (dag_of c.args.graph.now) c.args.turn.now.vertex c.args.members.now

pub loop-u-preserved : goal.loop-u-preserved
loop-u-preserved c =
    let d = dag_of c.args.graph.now in
    let v = c.args.turn.now.vertex in
    let s = c.args.members.now in
    elim c.if-has.branch [
      | then-has+then-furthest-next_use w ↦
          best_at d v s (c.loop-u.u + 1) c.loop-u.u w.next_use-next_use.result c.if-has.vertex c.if-has.furthest w.vertex-is w.furthest-is
          (best_next d v s c.loop-u.u c.loop-u.vertex c.loop-u.furthest w.next_use-next_use.result c.loop-u.invariant (sym c.has.ensures.value ∙ w.if-has.true) w.next_use-next_use.ensures
          (let late = w.if-furthest-next_use.true in omega arith))
      | then-has+else-furthest-next_use w ↦
          best_at d v s (c.loop-u.u + 1) c.loop-u.vertex c.loop-u.furthest c.if-has.vertex c.if-has.furthest w.vertex-is w.furthest-is
          (best_kept d v s c.loop-u.u c.loop-u.vertex c.loop-u.furthest w.next_use-next_use.result c.loop-u.invariant w.next_use-next_use.ensures
          (let early = w.if-furthest-next_use.false in omega arith))
      | else-has w ↦
          best_at d v s (c.loop-u.u + 1) c.loop-u.vertex c.loop-u.furthest c.if-has.vertex c.if-has.furthest w.vertex-is w.furthest-is
          (best_passed d v s c.loop-u.u c.loop-u.vertex c.loop-u.furthest c.loop-u.invariant (sym c.has.ensures.value ∙ w.if-has.false))
    ]

pub returns-clause-vertex : goal.returns-clause-vertex
returns-clause-vertex c =
    let one = some_member c.args.members.now c.requires.some in
    let many : length c.args.graph.now.nodes ≤ c.loop-u.u = (let end = c.len-u-end.ensures.value in let past = c.loop-u-test.false in omega arith) in
    best_victim (dag_of c.args.graph.now) c.args.turn.now.vertex c.args.members.now c.loop-u.u c.loop-u.vertex c.loop-u.furthest one.0 c.loop-u.invariant c.requires.below many one.1

pub returns-clause-next_use : goal.returns-clause-next_use
returns-clause-next_use c =
    let one = some_member c.args.members.now c.requires.some in
    let many : length c.args.graph.now.nodes ≤ c.loop-u.u = (let end = c.len-u-end.ensures.value in let past = c.loop-u-test.false in omega arith) in
    best_use (dag_of c.args.graph.now) c.args.turn.now.vertex c.args.members.now c.loop-u.u c.loop-u.vertex c.loop-u.furthest one.0 c.loop-u.invariant c.requires.below many one.1

pub returns-clause-member : goal.returns-clause-member
returns-clause-member c =
    let one = some_member c.args.members.now c.requires.some in
    let many : length c.args.graph.now.nodes ≤ c.loop-u.u = (let end = c.len-u-end.ensures.value in let past = c.loop-u-test.false in omega arith) in
    (best_is (dag_of c.args.graph.now) c.args.turn.now.vertex c.args.members.now c.loop-u.u c.loop-u.vertex c.loop-u.furthest one.0 c.loop-u.invariant c.requires.below many one.1).member
