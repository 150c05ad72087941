use Rattle.std.proofs.Common.{◌*◌, ◌+◌, ◌≤◌, [], ◌∷◌, length, length-append, sym, ap, ◌∙◌, subst, arith}
use Rattle.comp_graph.specs.Games.{game_of}
use Rattle.comp_graph.proofs.GraphLaws.{IsDag-dag_of}
use Rattle.branch_bound.specs.Frontiers.{best_of, store_of}
use Rattle.cover_cert.specs.CoverMaking.{made_rows}
use Rattle.cover_cert.specs.CoverTurns.{AreMade, IsCoverUnderWay, row_at}
use Rattle.cover_cert.proofs.TurnsDone.{cover_begins, cover_done, cover_expanding, cover_made, cover_sound, cover_stopped, cover_turned}
use Rattle.cover_cert.proofs.searching.run.Goals as goal

pub loop-turn-init : goal.loop-turn-init
loop-turn-init g c =
    let begun = c.in_ok-frontier.ensures 0 in
    let size = begun.size in
    record {
      searching = record {
        frontier = begun.frontier;
        wide = begun.wide;
        size = size;
        many = (let none = ap length c.new-made.ensures.items in omega arith);
        under_way = subst (IsCoverUnderWay (game_of c.args.game.now) c.args.first.now c.args.budget 0 (store_of c.in_ok-frontier.frontier) _) (sym c.new-made.ensures.items)
            (cover_begins (game_of c.args.game.now) (IsDag-dag_of c.args.game.now.graph c.requires.game.valid) c.args.first.now c.requires.finishing c.args.budget (store_of c.in_ok-frontier.frontier) _ begun.under_way);
      };
      counted = omega arith;
    }

pub returns-in-None-clause-done : goal.returns-in-None-clause-done
returns-in-None-clause-done g c = cover_stopped (game_of c.args.game.now) (IsDag-dag_of c.args.game.now.graph c.requires.game.valid) c.args.first.now c.args.budget c.loop-turn.turn (store_of c.loop-turn.frontier) (store_of c.next.new.self) (best_of c.loop-turn.best) c.loop-turn.made.items c.loop-turn.invariant.searching.under_way c.loop-turn-test.true c.in-None.ensures.next

pub make-requires-clause-expanding : goal.make-requires-clause-expanding
make-requires-clause-expanding g c = cover_expanding (game_of c.args.game.now) (IsDag-dag_of c.args.game.now.graph c.requires.game.valid) c.args.first.now c.args.budget c.loop-turn.turn (store_of c.loop-turn.frontier) (store_of c.next.new.self) (best_of c.loop-turn.best) c.loop-turn.made.items c.loop-turn.invariant.searching.under_way c.in-Some.k c.in-Some.ensures.next

pub make-requires-clause-sound : goal.make-requires-clause-sound
make-requires-clause-sound g c = cover_sound (game_of c.args.game.now) (IsDag-dag_of c.args.game.now.graph c.requires.game.valid) c.args.first.now c.args.budget c.loop-turn.turn (store_of c.loop-turn.frontier) (store_of c.next.new.self) (best_of c.loop-turn.best) c.loop-turn.made.items c.loop-turn.invariant.searching.under_way c.in-Some.k c.in-Some.ensures.next

pub make-requires-clause-made : goal.make-requires-clause-made
make-requires-clause-made g c =
    subst (λ ms. AreMade (store_of c.next.new.self) (row_at (store_of c.next.new.self) c.in-Some.k ∷ made_rows ms)) (sym c.deref.ensures.value) (cover_made (game_of c.args.game.now) (IsDag-dag_of c.args.game.now.graph c.requires.game.valid) c.args.first.now c.args.budget c.loop-turn.turn (store_of c.loop-turn.frontier) (store_of c.next.new.self) (best_of c.loop-turn.best) c.loop-turn.made.items c.loop-turn.invariant.searching.under_way c.in-Some.k c.in-Some.ensures.next)

pub loop-turn-preserved : goal.loop-turn-preserved
loop-turn-preserved g c =
    let after = c.in_ok-row-in-Some.ensures.made in
    let size = after.size in
    let next = c.in-Some.ensures.size in
    let was = c.loop-turn.invariant.searching.size in
    let words = after.words ∙ c.in-Some.ensures.words in
    let row = c.in_ok-row-in-Some.row in
    let items = c.in_ok-push-in-Some.ensures.items in
    let many = length-append c.loop-turn.made.items (row ∷ []) in
    let count = ap length items in
    let few = c.loop-turn.invariant.searching.many in
    let ticks = c.make.ensures.steps in
    let counted = c.loop-turn.invariant.counted in
    record {
      searching = record {
        frontier = after.frontier;
        wide = subst (λ words. length c.args.game.now.graph.nodes ≤ 64 * words) (sym words) c.loop-turn.invariant.searching.wide;
        size = omega (arith, size, next, was);
        many = omega (arith, many, count, few);
        under_way = subst (IsCoverUnderWay (game_of c.args.game.now) c.args.first.now c.args.budget (c.loop-turn.turn + 1) (store_of c.make.new.frontier) (best_of c.make.new.best)) (sym items)
            (cover_turned (game_of c.args.game.now) (IsDag-dag_of c.args.game.now.graph c.requires.game.valid) c.args.first.now c.args.budget c.loop-turn.turn (store_of c.loop-turn.frontier) (store_of c.next.new.self) (best_of c.loop-turn.best) c.loop-turn.made.items c.loop-turn.invariant.searching.under_way c.in-Some.k c.in-Some.ensures.next (store_of c.make.new.frontier) (best_of c.make.new.best) row after.done after.row c.floor_at_ends.ensures.finish c.loop-turn-test.true);
      };
      counted = omega (arith, ticks, counted);
    }

pub returns-clause-done : goal.returns-clause-done
returns-clause-done g c =
    cover_done (game_of c.args.game.now) c.args.first.now c.args.budget c.loop-turn.turn (store_of c.loop-turn.frontier) (best_of c.loop-turn.best) c.loop-turn.made.items c.loop-turn-test.false c.loop-turn.invariant.searching.under_way
