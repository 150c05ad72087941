use Rattle.std.proofs.Common.{◌≡◌, ◌+◌, ◌↔◌, IsTrue, ap, subst}
use Rattle.comp_graph.specs.Games.{game_of}
use Rattle.window_game.specs.Plays.{step_cost_in, stepped_in}
use Rattle.window_steps.specs.Sets.{window_of}
use Rattle.window_checker.specs.Readiness.{IsSettledIn}
use Rattle.window_checker.proofs.row_tests.step_settles.Goals as goal

pub returns : goal.returns
returns c =
    let g = c.args.game.now in
    let w = c.args.window.now in
    let r = c.args.row.now in
    let paid : r.cost + c.cost.result ≡ r.cost + step_cost_in (game_of g) (window_of w) r.position c.args.step = ap (λ n. r.cost + n) c.cost.ensures in
    subst (λ n. IsTrue c.is_settled.result ↔ IsSettledIn g w c.args.table.now (stepped_in (game_of g) (window_of w) r.position c.args.step) n) paid
    (subst (λ p. IsTrue c.is_settled.result ↔ IsSettledIn g w c.args.table.now p (r.cost + c.cost.result)) c.after-there.ensures c.is_settled.ensures)
