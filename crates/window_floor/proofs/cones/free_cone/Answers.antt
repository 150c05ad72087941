use Rattle.std.proofs.Common.{ap, sym, ◌∙◌}
use Rattle.std.specs.FinSet.{insert, difference}
use Rattle.comp_graph.specs.Games.{game_of}
use Rattle.comp_graph.proofs.GraphLaws.{IsDag-dag_of}
use Rattle.window_steps.specs.Sets.{window_of}
use Rattle.window_floor.proofs.ConeLoops.{first_in_walk}
use Rattle.window_floor.proofs.cones.free_cone.Goals as goal

pub returns-then-meets : goal.returns-then-meets
returns-then-meets c =
    first_in_walk (game_of c.args.game.now) (IsDag-dag_of c.args.game.now.graph c.requires.graph) (window_of c.args.window.now) c.args.cheap.now c.with-first.result c.args.met.now c.args.v
    (c.with-first.ensures ∙ ap (λ s. insert s c.args.v) (c.minus.ensures ∙ ap (λ s. difference s c.args.cheap.now) c.operands.ensures))
    (sym c.meets.ensures ∙ c.if-meets.true)
