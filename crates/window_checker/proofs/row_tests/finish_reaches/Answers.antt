use Rattle.std.proofs.Common.{◌≡◌, ◌+◌, Bool, true, false, refl, sym, ◌∙◌, arith}
use Rattle.comp_graph.specs.Games.{game_of}
use Rattle.window_steps.specs.Sets.{window_of}
use Rattle.window_steps.proofs.Tests.{finish_is_tested}
use Rattle.cert_checker.proofs.RowTests.{is_within_true}
use Rattle.window_checker.specs.Readiness.{FinishReachesIn}
use Rattle.window_checker.proofs.row_tests.finish_reaches.Goals as goal

apart : (b : Bool) → b ≡ true → b ≡ false → ⊥
apart b t f = let clash : true ≡ false = sym t ∙ f in cc

pub returns-then-not-can_finish : goal.returns-then-not-can_finish
returns-then-not-can_finish c =
    let tested = finish_is_tested (game_of c.args.game.now) (window_of c.args.window.now) c.args.row.now.position in
    (λ _ can. absurd (apart c.can_finish.result (c.can_finish.ensures ∙ tested.1 can) c.if-not-can_finish.true), λ _. refl)

pub returns : goal.returns
returns c =
    let tested = finish_is_tested (game_of c.args.game.now) (window_of c.args.window.now) c.args.row.now.position in
    let can = tested.0 (sym c.can_finish.ensures ∙ c.if-not-can_finish.false) in
    let finish = c.finish_cost.ensures in
    is_within_true c.args.table.now.bound (c.args.row.now.cost + c.finish_cost.result) (FinishReachesIn c.args.game.now c.args.window.now c.args.table.now c.args.row.now)
    (λ few can. omega arith, λ reaches. let few = reaches can in omega arith)
