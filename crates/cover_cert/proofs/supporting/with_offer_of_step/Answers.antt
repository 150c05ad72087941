use Rattle.std.proofs.Common.{ap, ◌∙◌, sym, subst, arith}
use Rattle.comp_graph.specs.Games.{game_of}
use Rattle.normal_steps.specs.Steps.{step_cost, stepped}
use Rattle.forced_bounds.specs.Floor.{floor}
use Rattle.potential_cert.specs.Table.{HasRow}
use Rattle.cover_cert.specs.CoverTable.{IsNamed, plain_rows}
use Rattle.cover_cert.proofs.Supports.{stays_in, leaves_here}
use Rattle.cover_cert.proofs.supporting.with_offer_of_step.Goals as goal

pub returns-in-Some : goal.returns-in-Some
returns-in-Some c =
    let g = game_of c.args.game.now in
    let there = c.after-there.ensures ∙ ap (λ r. stepped g r.position c.args.step) c.row.view_is in
    let row = c.in-Some.ensures.some in
    stays_in g c.args.rows.now c.args.row.now c.args.place c.args.step c.args.most (row.0, row.1, row.2 ∙ there)

pub returns-then-offer-most : goal.returns-then-offer-most
returns-then-offer-most c =
    let g = game_of c.args.game.now in
    let there = c.after-there.ensures ∙ ap (λ r. stepped g r.position c.args.step) c.row.view_is in
    let least = c.floor.ensures.value ∙ ap (floor g) there in
    let own = ap (λ r. r.cost) c.row.view_is in
    let step = c.cost.ensures ∙ ap (λ r. step_cost g r.position c.args.step) c.row.view_is in
    let names_are = c.deref.ensures.value ∙ ap (λ r. r.names) c.row.view_is in
    let offered = c.if-offer-most.true in
    leaves_here g c.args.rows.now c.args.row.now c.args.place c.args.step c.args.most _ c.requires.row c.requires.at
    (λ named. let tested = c.is_named.ensures.1 (subst (λ ns. IsNamed ns c.args.place) (sym names_are) named) in let untrue = c.if-is_named.false in grind arith)
    (subst (λ p. HasRow (plain_rows c.args.rows.now) p → ⊥) there c.in_default.ensures.none) (omega arith) (omega arith)
