-- What the two searches find is what is asked for.
use Rattle.command_answers.proofs.FirstPlans.{first_plan_is}
use Rattle.improve_answers.proofs.Tables.{found_is_for}
use Rattle.improve_answers.proofs.finding.found_for.Goals as goal

pub returns : goal.returns
returns c =
    let first = c.in_ok-first.ensures in
    let plan = c.in_ok-plan.ensures in
    let table = c.no_less_than_the_floor-table.ensures in
    found_is_for c.args.game.now c.args.effort c.total-first_cost.result c.rows_allowed.result c.in_ok-first.first c.in_ok-plan.plan c.in_ok-plan-2.field-0 c.no_less_than_the_floor-table.result
    c.slots-slots.ensures.valid (first_plan_is c.args.game.now c.in_ok-first.first first.game first.steps first.total) c.total-first_cost.ensures.value plan.game plan.valid plan.no_more plan.still
    c.rows_allowed.ensures.value c.in_ok-plan-2.ensures c.total-cost.ensures.valid table.one table.floored
