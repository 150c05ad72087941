use Rattle.std.proofs.Common.{◌≡◌, ◌↔◌, ◌≢◌, subst, ap}
use Rattle.comp_graph.specs.Games.{IsGame, game_of}
use Rattle.branch_bound.specs.Frontiers.{best_of, store_of}
use Rattle.branch_bound.specs.declared.searching.Verdict.TheVariants.{Optimal, Open}
use Rattle.cover_cert.specs.CoverFounds.{IsCoverSearchedTable}
use Rattle.cover_cert.specs.CoverSearch.{cover_searched}
use Rattle.cover_cert.specs.CoverTurns.{IsCoverDone}
use Rattle.cover_cert.proofs.CoverFoundLaws.{cover_ended, cover_found_is}
use Rattle.cover_cert.proofs.searching.cover_search_counted.Goals as goal

pub best_plan-requires : goal.best_plan-requires
best_plan-requires g c =
    let first = c.args.first in
    let game = c.game-game.ensures.value in
    let valid = c.game-game.ensures.valid in
    let f = c.in_ok-frontier.field-0.frontier in
    let b = c.in_ok-frontier.field-0.best in
    let made = c.in_ok-frontier.field-0.made.items in
    let done =
    subst (λ game. IsCoverDone (game_of game) first.steps c.args.budget (store_of f) (best_of b) made) game
    (subst (λ steps. IsCoverDone (game_of c.game-game.result.now) steps c.args.budget (store_of f) (best_of b) made) c.steps.ensures.value c.in_ok-frontier.ensures.done) in
    ((cover_searched (game_of first.game) first.steps c.args.budget).search, cover_ended c.floor_at_ends.ensures.finish first.game (subst IsGame game c.slots-slots.ensures.valid) first.steps valid.finishing c.args.budget (store_of f) (best_of b) made done)

pub returns-clause-found : goal.returns-clause-found
returns-clause-found g c =
    let first = c.args.first in
    let game = c.game-game.ensures.value in
    let valid = c.game-game.ensures.valid in
    let f = c.in_ok-frontier.field-0.frontier in
    let b = c.in_ok-frontier.field-0.best in
    let made = c.in_ok-frontier.field-0.made.items in
    let done =
    subst (λ game. IsCoverDone (game_of game) first.steps c.args.budget (store_of f) (best_of b) made) game
    (subst (λ steps. IsCoverDone (game_of c.game-game.result.now) steps c.args.budget (store_of f) (best_of b) made) c.steps.ensures.value c.in_ok-frontier.ensures.done) in
    let bound = ap (λ t. t.bound) c.table.view_is in
    let table =
    subst (λ game. IsCoverSearchedTable (game_of game) first.steps c.args.budget b.cost c.in_ok-table.table) game
    (subst (λ steps. IsCoverSearchedTable (game_of c.game-game.result.now) steps c.args.budget b.cost c.in_ok-table.table) c.steps-2.ensures.value c.in_ok-table.ensures) in
    cover_found_is c.floor_at_ends.ensures.finish first (subst IsGame game c.slots-slots.ensures.valid) valid c.args.budget c.requires (store_of f) (best_of b) made done _
    c.in_ok-plan.ensures.game
    (c.in_ok-plan.ensures.steps (cover_searched (game_of first.game) first.steps c.args.budget).search
    (cover_ended c.floor_at_ends.ensures.finish first.game (subst IsGame game c.slots-slots.ensures.valid) first.steps valid.finishing c.args.budget (store_of f) (best_of b) made done))
    c.in_ok-plan.ensures.valid c.total-first_cost.ensures.value table
    (subst (λ bound. (c.verdict_on-verdict.result ≡ Optimal) ↔ (bound ≡ b.cost)) bound c.verdict_on-verdict.ensures.optimal)
    (subst (λ bound. (c.verdict_on-verdict.result ≡ Open) ↔ (bound ≢ b.cost)) bound c.verdict_on-verdict.ensures.open)
