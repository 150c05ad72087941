use Rattle.std.proofs.Common.{◌≡◌, ◌↔◌, ◌≢◌, subst, ap}
use Rattle.comp_graph.specs.Games.{IsGame, game_of}
use Rattle.search_laws.specs.Search.{searched}
use Rattle.search_laws.specs.Turning.{IsDone}
use Rattle.branch_bound.specs.Frontiers.{store_of, best_of}
use Rattle.branch_bound.specs.declared.searching.Verdict.TheVariants.{Optimal, Open}
use Rattle.branch_bound.specs.Founds.{IsSearchedTable}
use Rattle.branch_bound.proofs.FoundLaws.{found_is, has_ended}
use Rattle.branch_bound.proofs.searching.search_counted.Goals as goal

pub best_plan-requires : goal.best_plan-requires
best_plan-requires g c =
    let first = c.args.first in
    let game = c.game-game.ensures.value in
    let valid = c.game-game.ensures.valid in
    let f = c.in_ok-frontier.field-0.frontier in
    let b = c.in_ok-frontier.field-0.best in
    let done =
    subst (λ game. IsDone (game_of game) first.steps c.args.budget (store_of f) (best_of b)) game
    (subst (λ steps. IsDone (game_of c.game-game.result.now) steps c.args.budget (store_of f) (best_of b)) c.steps.ensures.value c.in_ok-frontier.ensures.searched) in
    (searched (game_of first.game) first.steps c.args.budget, has_ended c.floor_at_ends.ensures.finish first.game (subst IsGame game c.slots-slots.ensures.valid) first.steps valid.finishing c.args.budget f b done)

pub returns-clause-found : goal.returns-clause-found
returns-clause-found g c =
    let first = c.args.first in
    let game = c.game-game.ensures.value in
    let valid = c.game-game.ensures.valid in
    let f = c.in_ok-frontier.field-0.frontier in
    let b = c.in_ok-frontier.field-0.best in
    let done =
    subst (λ game. IsDone (game_of game) first.steps c.args.budget (store_of f) (best_of b)) game
    (subst (λ steps. IsDone (game_of c.game-game.result.now) steps c.args.budget (store_of f) (best_of b)) c.steps.ensures.value c.in_ok-frontier.ensures.searched) in
    let bound = ap (λ t. t.bound) c.table.view_is in
    let table =
    subst (λ game. IsSearchedTable (game_of game) first.steps c.args.budget b.cost c.in_ok-table.table) game
    (subst (λ steps. IsSearchedTable (game_of c.game-game.result.now) steps c.args.budget b.cost c.in_ok-table.table) c.steps-2.ensures.value c.in_ok-table.ensures) in
    found_is c.floor_at_ends.ensures.finish first (subst IsGame game c.slots-slots.ensures.valid) valid c.args.budget c.requires f b done _
    c.in_ok-plan.ensures.game
    (c.in_ok-plan.ensures.steps (searched (game_of first.game) first.steps c.args.budget)
    (has_ended c.floor_at_ends.ensures.finish first.game (subst IsGame game c.slots-slots.ensures.valid) first.steps valid.finishing c.args.budget f b done))
    c.in_ok-plan.ensures.valid c.total-first_cost.ensures.value table
    (subst (λ bound. (c.verdict_on-verdict.result ≡ Optimal) ↔ (bound ≡ b.cost)) bound c.verdict_on-verdict.ensures.optimal)
    (subst (λ bound. (c.verdict_on-verdict.result ≡ Open) ↔ (bound ≢ b.cost)) bound c.verdict_on-verdict.ensures.open)
