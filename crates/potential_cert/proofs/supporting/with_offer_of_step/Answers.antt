use Rattle.std.proofs.Common.{ap, ◌∙◌, subst, arith}
use Rattle.comp_graph.specs.Games.{game_of}
use Rattle.forced_bounds.specs.Floor.{floor}
use Rattle.potential_cert.specs.Table.{HasRow}
use Rattle.potential_cert.proofs.SupportLoops.{stays_in, leaves_here}
use Rattle.potential_cert.proofs.supporting.with_offer_of_step.Goals as goal

pub returns-in-Some : goal.returns-in-Some
returns-in-Some c =
    let row = c.in-Some.ensures.some in
    stays_in (game_of c.args.game.now) c.args.rows.now c.args.row.now c.args.step c.args.most (row.0, row.1, row.2 ∙ c.after-there.ensures)

pub returns-then-offer-most : goal.returns-then-offer-most
returns-then-offer-most c =
    let g = game_of c.args.game.now in
    let least = c.floor.ensures.value ∙ ap (floor g) c.after-there.ensures in
    let offered = c.if-offer-most.true in
    leaves_here g c.args.rows.now c.args.row.now c.args.step c.args.most _ c.requires.row c.requires.step
    (subst (λ p. HasRow c.args.rows.now p → ⊥) c.after-there.ensures c.in_default.ensures.none) (let step = c.cost.ensures in omega arith) (omega arith)
