-- The steps are a plan, so one is there.
use Rattle.comp_graph.specs.Games.{game_of}
use Rattle.normal_steps.specs.Plans.{IsNoPlan}
use Rattle.first_plan.proofs.Costs.{first_is_plan}
use Rattle.first_plan.proofs.Calls.{some_unless}
use Rattle.first_plan.proofs.planning.first.Goals as goal

pub unwrap-requires : goal.unwrap-requires
unwrap-requires c =
    some_unless (IsNoPlan (game_of c.args.game.now) c.in_ok-steps.steps.items) c.new.result c.new.ensures.none
    (first_is_plan c.args.game.now c.in_ok-steps.ensures.valid c.in_ok-steps.steps.items c.in_ok-steps.ensures.steps)
