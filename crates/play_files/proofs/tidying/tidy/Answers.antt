-- The steps are a plan, so one is there.
use Rattle.std.proofs.Common.{rules, ◌≡◌, sym, subst}
use Rattle.comp_graph.specs.Games.{game_of}
use Rattle.normal_steps.specs.Plans.{IsNoPlan}
use Rattle.play_files.specs.Followed.{AreStepsOf}
use Rattle.play_files.proofs.Playing.{some_unless, tidied_is_plan}
use Rattle.play_files.proofs.tidying.tidy.Goals as goal

pub unwrap-requires : goal.unwrap-requires
unwrap-requires c =
    some_unless (IsNoPlan (game_of c.args.game.now) c.in_ok-steps.steps.items) c.new.result c.new.ensures.none
    (tidied_is_plan c.args.game.now c.args.moves.now c.in_ok-steps.steps.items c.in_ok-steps.ensures.valid.weights c.requires.few c.in_ok-steps.ensures.tidied)

pub returns-clause-steps : goal.returns-clause-steps
returns-clause-steps c =
    let same : c.unwrap.result.steps ≡ c.in_ok-steps.steps.items = search rules in
    subst (AreStepsOf (game_of c.args.game.now) c.args.moves.now) (sym same) c.in_ok-steps.ensures.steps
