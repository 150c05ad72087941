use Rattle.comp_graph.specs.Games.{game_of}
use Rattle.pebble_rules.proofs.Replays.{IsUnderWay}
use Rattle.pebble_rules.proofs.replaying.replay.Given as goal

abbrev pub invariant-loop-at : goal.invariant-loop-at
invariant-loop-at l = IsUnderWay (game_of l.game) l.moves l.at l.position l.cost
