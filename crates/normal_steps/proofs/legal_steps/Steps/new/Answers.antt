use Rattle.comp_graph.specs.Games.{game_of}
use Rattle.normal_steps.proofs.AllLegal.{listed_legal, none_removable, red_removable, few_listed, none_within, difference_within}
use Rattle.normal_steps.proofs.Workable.{not_both}
use Rattle.normal_steps.proofs.legal_steps.Steps.new.Goals as goal

pub returns-then-not-is_crowded-clause-exact : goal.returns-then-not-is_crowded-clause-exact
returns-then-not-is_crowded-clause-exact c =
    let g = game_of c.args.game.now in
    listed_legal 256 g c.args.position.now c.workable-works.result c.empty.result c.empty-then-not-is_crowded.result
    c.workable-works.ensures.members c.workable-works.ensures.bounded c.is_crowded.ensures.bounded
    (none_removable g c.args.position.now c.empty.result c.empty-then-not-is_crowded.result c.empty.ensures c.empty-then-not-is_crowded.ensures
    (λ crowded. not_both c.is_crowded.result (c.is_crowded.ensures.crowded.1 crowded) c.if-not-is_crowded.true))

pub returns-then-not-is_crowded-clause-few : goal.returns-then-not-is_crowded-clause-few
returns-then-not-is_crowded-clause-few c few =
    few_listed c.workable-works.result c.empty.result c.empty-then-not-is_crowded.result c.args.position.now.red c.workable-works.ensures.bounded c.is_crowded.ensures.bounded
    (none_within _ _ c.empty.ensures) (none_within _ _ c.empty-then-not-is_crowded.ensures) few

pub returns-clause-exact : goal.returns-clause-exact
returns-clause-exact c =
    let g = game_of c.args.game.now in
    listed_legal 256 g c.args.position.now c.workable-works.result c.args.position.now.red c.minus.result
    c.workable-works.ensures.members c.workable-works.ensures.bounded c.is_crowded.ensures.bounded
    (red_removable g c.args.position.now c.minus.result c.minus.ensures (c.is_crowded.ensures.crowded.0 c.if-not-is_crowded.false))

pub returns-clause-few : goal.returns-clause-few
returns-clause-few c few =
    few_listed c.workable-works.result c.args.position.now.red c.minus.result c.args.position.now.red c.workable-works.ensures.bounded c.is_crowded.ensures.bounded
    (λ u h. h) (difference_within _ _ _ c.minus.ensures) few
