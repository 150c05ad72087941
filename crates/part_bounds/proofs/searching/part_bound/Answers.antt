-- What the search of a part answers is its bound.
use Rattle.std.proofs.Common.{sym, ap, ◌∙◌, subst}
use Rattle.comp_graph.specs.Games.{IsGame, game_of}
use Rattle.first_plan.specs.FirstPlan.{first_steps}
use Rattle.part_bounds.specs.Bounds.{IsPartBound}
use Rattle.part_bounds.proofs.Games.{games_are_induced}
use Rattle.part_bounds.proofs.PartSearches.{part_bound_is}
use Rattle.part_bounds.proofs.searching.part_bound.Goals as goal

pub returns : goal.returns
returns c =
    let game = c.in_ok-first.ensures.game in
    let on_first =
    part_bound_is c.plan_is_no_worse.ensures c.in_ok-first.field-0 (subst IsGame (sym game) c.slots-slots.ensures.valid) c.in_ok-first.ensures.valid
    (c.in_ok-first.ensures.steps ∙ ap (λ game. first_steps (game_of game)) (sym game)) c.args.budget c.in_ok-plan.field-0 c.in_ok-plan.ensures c.total.ensures.valid
    c.total.result c.total.ensures.value in
    subst (λ g. IsPartBound g c.args.budget (record { cost = c.total.result; table = c.in_ok-plan.field-0.table }))
    (ap game_of (game ∙ c.in_ok-on_part.ensures) ∙ (games_are_induced c.args.game.now c.requires.game c.args.part.now c.requires.below).cut) on_first
