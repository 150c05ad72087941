use Rattle.comp_graph.specs.Games.{game_of}
use Rattle.normal_steps.proofs.Workable.{AreWorkableBelow}
use Rattle.normal_steps.proofs.legal_steps.workable.Given as goal

abbrev pub invariant-loop-v : goal.invariant-loop-v
invariant-loop-v l = AreWorkableBelow (game_of l.game) l.position l.v l.works
