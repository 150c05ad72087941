use Rattle.comp_graph.specs.Games.{game_of}
use Rattle.window_steps.specs.Sets.{window_of}
use Rattle.forced_bounds.proofs.DemandLaws.{IsSwept}
use Rattle.window_laws.specs.Entry.{known_dag}
use Rattle.window_floor.proofs.demand.demanded.Given as goal

abbrev pub invariant-loop-v : goal.invariant-loop-v
invariant-loop-v l = IsSwept (known_dag (game_of l.game) (window_of l.window)) l.position l.v l.needed l.read
