use Rattle.std.proofs.Common.{◌&&◌, ap, ◌∙◌, arith}
use Rattle.std.specs.FinSet.{contains}
use Rattle.comp_graph.specs.Sets.{same_members}
use Rattle.comp_graph.specs.Games.{game_of}
use Rattle.window_steps.specs.Sets.{window_of}
use Rattle.window_steps.proofs.Calls.{none_below, one_more, none_more}
use Rattle.window_floor.proofs.GroupLaws.{alike_test}
use Rattle.window_floor.proofs.grouping.alike.Goals.{then-is_alike, else-is_alike}
use Rattle.window_floor.proofs.grouping.alike.Goals as goal

pub loop-u-init : goal.loop-u-init
loop-u-init c = record {
  below = omega arith;
  found = none_below (alike_test (game_of c.args.game.now) (window_of c.args.window.now) c.args.v) c.empty-found.result c.empty-found.ensures;
}

pub loop-u-preserved : goal.loop-u-preserved
loop-u-preserved c =
    let w = window_of c.args.window.now in
    let test = alike_test (game_of c.args.game.now) w c.args.v in
    let tested = c.is_alike.ensures ∙ ap (λ s. contains s c.loop-u.u && same_members (w.loads c.loop-u.u) (w.loads c.args.v)) c.requires.workers in
    elim c.if-is_alike.branch [
      | then-is_alike b ↦ record {
        below = omega arith;
        found = one_more test c.loop-u.u c.loop-u.found c.if-is_alike.found c.is_alike.result c.loop-u.invariant.found tested b.if-is_alike.true (b.found-is ∙ b.with-found.ensures);
      }
      | else-is_alike b ↦ record {
        below = omega arith;
        found = none_more test c.loop-u.u c.loop-u.found c.if-is_alike.found c.is_alike.result c.loop-u.invariant.found tested b.if-is_alike.false b.found-is;
      }
    ]
