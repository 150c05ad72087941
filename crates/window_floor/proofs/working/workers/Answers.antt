use Rattle.std.proofs.Common.{◌≡◌, length, ap, ◌∙◌, arith}
use Rattle.comp_graph.specs.Games.{game_of}
use Rattle.comp_graph.specs.Vertices.{set_below}
use Rattle.window_steps.specs.Sets.{window_of}
use Rattle.window_steps.proofs.Calls.{none_below, one_more, none_more}
use Rattle.window_floor.specs.Workers.{is_worker}
use Rattle.window_floor.proofs.WorkerLaws.{are_workers, workers_bounded}
use Rattle.window_floor.proofs.working.workers.Goals.{then-is_worker, else-is_worker}
use Rattle.window_floor.proofs.working.workers.Goals as goal

pub loop-v-init : goal.loop-v-init
loop-v-init c = record {
  below = omega arith;
  found = none_below (is_worker (game_of c.args.game.now) (window_of c.args.window.now)) c.empty-found.result c.empty-found.ensures;
}

pub loop-v-preserved : goal.loop-v-preserved
loop-v-preserved c =
    let test = is_worker (game_of c.args.game.now) (window_of c.args.window.now) in
    elim c.if-is_worker.branch [
      | then-is_worker w ↦ record {
        below = omega arith;
        found = one_more test c.loop-v.v c.loop-v.found c.if-is_worker.found c.is_worker.result c.loop-v.invariant.found c.is_worker.ensures w.if-is_worker.true (w.found-is ∙ w.with-found.ensures);
      }
      | else-is_worker w ↦ record {
        below = omega arith;
        found = none_more test c.loop-v.v c.loop-v.found c.if-is_worker.found c.is_worker.result c.loop-v.invariant.found c.is_worker.ensures w.if-is_worker.false w.found-is;
      }
    ]

pub returns-clause-exact : goal.returns-clause-exact
returns-clause-exact c =
    let end = c.len-v-end.ensures.value ∙ ap (λ g. length g.nodes) c.graph.ensures.value in
    let all : c.loop-v.v ≡ length c.args.game.now.graph.nodes = (let past = c.loop-v-test.false in let below = c.loop-v.invariant.below in omega arith) in
    let value = c.loop-v.invariant.found ∙ ap (set_below (is_worker (game_of c.args.game.now) (window_of c.args.window.now))) all in
    are_workers c.args.game.now c.graph.ensures.valid.valid (window_of c.args.window.now) c.loop-v.found value

pub returns-clause-value : goal.returns-clause-value
returns-clause-value c =
    let end = c.len-v-end.ensures.value ∙ ap (λ g. length g.nodes) c.graph.ensures.value in
    let all : c.loop-v.v ≡ length c.args.game.now.graph.nodes = (let past = c.loop-v-test.false in let below = c.loop-v.invariant.below in omega arith) in
    let value = c.loop-v.invariant.found ∙ ap (set_below (is_worker (game_of c.args.game.now) (window_of c.args.window.now))) all in
    value

pub returns-clause-bounded : goal.returns-clause-bounded
returns-clause-bounded c =
    let end = c.len-v-end.ensures.value ∙ ap (λ g. length g.nodes) c.graph.ensures.value in
    let all : c.loop-v.v ≡ length c.args.game.now.graph.nodes = (let past = c.loop-v-test.false in let below = c.loop-v.invariant.below in omega arith) in
    let value = c.loop-v.invariant.found ∙ ap (set_below (is_worker (game_of c.args.game.now) (window_of c.args.window.now))) all in
    workers_bounded c.args.game.now c.graph.ensures.valid.valid (window_of c.args.window.now) c.loop-v.found value
