use Rattle.std.proofs.Common.{ap, ◌∙◌}
use Rattle.std.specs.FinSet.{difference}
use Rattle.comp_graph.specs.Games.{game_of}
use Rattle.window_steps.specs.Sets.{window_of}
use Rattle.window_steps.proofs.Calls.{roomy_sets, crowded_sets}
use Rattle.window_steps.proofs.stepping.step_sets.Goals as goal

pub returns-then-not-is_crowded-clause-exact : goal.returns-then-not-is_crowded-clause-exact
returns-then-not-is_crowded-clause-exact c =
    roomy_sets (game_of c.args.game.now) (window_of c.args.window.now) c.args.position.now c.workable-works.result c.empty.result c.empty-then-not-is_crowded.result c.is_crowded.result
    c.workable-works.ensures.members c.is_crowded.ensures c.if-not-is_crowded.true c.empty.ensures c.empty-then-not-is_crowded.ensures

pub returns-clause-exact : goal.returns-clause-exact
returns-clause-exact c =
    crowded_sets (game_of c.args.game.now) (window_of c.args.window.now) c.args.position.now c.workable-works.result c.minus.result c.is_crowded.result
    c.workable-works.ensures.members c.is_crowded.ensures c.if-not-is_crowded.false (c.minus.ensures ∙ ap (λ s. difference s c.args.position.now.blue) c.meet.ensures)
