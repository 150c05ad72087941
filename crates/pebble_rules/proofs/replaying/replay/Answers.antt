use Rattle.pebble_rules.proofs.Replays.{under_way_next}
use Rattle.pebble_rules.proofs.replaying.replay.Goals as goal

pub loop-at-preserved : goal.loop-at-preserved
loop-at-preserved c =
    under_way_next _ c.args.moves.now c.loop-at.at c.loop-at.position c.in-Ok.after c.loop-at.cost c.cost_of-cost.result _
    c.loop-at.invariant c.loop-at-test.true c.in-Ok.ensures.is_move c.in-Ok.ensures.after
    (c.cost_of-cost.ensures.cost c.args.game.now c.weights.ensures.value) c.cost_of-cost.ensures.most
