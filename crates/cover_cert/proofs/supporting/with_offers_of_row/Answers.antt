use Rattle.std.proofs.Common.{◌≤◌, length, ◌∙◌, subst, arith}
use Rattle.comp_graph.specs.Vertices.{size}
use Rattle.comp_graph.specs.Games.{game_of}
use Rattle.comp_graph.proofs.GraphLaws.{IsDag-dag_of}
use Rattle.normal_steps.specs.LegalSteps.{AreLegalSteps}
use Rattle.normal_steps.specs.StepTests.{legal_steps}
use Rattle.potential_cert.proofs.Places.{at_below}
use Rattle.cover_cert.proofs.RowTests.{few_legal, from_at, legal_at, same_legal}
use Rattle.cover_cert.proofs.Supports.{OffersSoFar, offers_begin, offers_next, offers_end}
use Rattle.cover_cert.proofs.supporting.with_offers_of_row.Goals as goal

pub loop-step-init : goal.loop-step-init
loop-step-init c =
    let g = game_of c.args.game.now in
    let r = c.args.row.now in
    let exact = subst (λ r. AreLegalSteps g r.position c.new-step-items.result) c.row.view_is c.new-step-items.ensures.exact in
    let same = same_legal g (IsDag-dag_of c.args.game.now.graph c.requires.game.valid) r.position c.requires.sound c.new-step-items.result exact in
    record { can_next = tt; is_finite = tt; offers = offers_begin g c.args.rows.now r c.args.most c.into_iter-step-iterator.result (c.into_iter-step-iterator.ensures.into_iter_gives ∙ same) }

pub with_offer_of_step-least-requires-clause-step : goal.with_offer_of_step-least-requires-clause-step
with_offer_of_step-least-requires-clause-step c =
    let g = game_of c.args.game.now in
    let r = c.args.row.now in
    let is = subst (λ ss. OffersSoFar g c.args.rows.now r c.args.most c.loop-step.least ss c.loop-step.place) c.in-Some.ensures.steps c.loop-step.invariant.offers in
    legal_at g (IsDag-dag_of c.args.game.now.graph c.requires.game.valid) r.position c.requires.sound c.in-Some.step c.loop-step.place (from_at c.loop-step.place c.in-Some.step c.next.new.self (legal_steps g r.position) is.from)

pub with_offer_of_step-least-requires-clause-at : goal.with_offer_of_step-least-requires-clause-at
with_offer_of_step-least-requires-clause-at c =
    let g = game_of c.args.game.now in
    let r = c.args.row.now in
    let is = subst (λ ss. OffersSoFar g c.args.rows.now r c.args.most c.loop-step.least ss c.loop-step.place) c.in-Some.ensures.steps c.loop-step.invariant.offers in
    from_at c.loop-step.place c.in-Some.step c.next.new.self (legal_steps g r.position) is.from

pub overflow_add-place : goal.overflow_add-place
overflow_add-place c =
    let g = game_of c.args.game.now in
    let r = c.args.row.now in
    let is = subst (λ ss. OffersSoFar g c.args.rows.now r c.args.most c.loop-step.least ss c.loop-step.place) c.in-Some.ensures.steps c.loop-step.invariant.offers in
    let below = at_below c.in-Some.step c.loop-step.place (legal_steps g r.position) (from_at c.loop-step.place c.in-Some.step c.next.new.self (legal_steps g r.position) is.from) in
    let exact = subst (λ r. AreLegalSteps g r.position c.new-step-items.result) c.row.view_is c.new-step-items.ensures.exact in
    let few = few_legal c.args.game.now c.requires.game r.position c.requires.sound c.new-step-items.result exact (subst (λ r. size r.position.red ≤ 64 → length c.new-step-items.result ≤ 384) c.row.view_is c.new-step-items.ensures.few) in
    omega arith

pub loop-step-preserved : goal.loop-step-preserved
loop-step-preserved c =
    let g = game_of c.args.game.now in
    let r = c.args.row.now in
    let is = subst (λ ss. OffersSoFar g c.args.rows.now r c.args.most c.loop-step.least ss c.loop-step.place) c.in-Some.ensures.steps c.loop-step.invariant.offers in
    record {
      can_next = tt;
      is_finite = tt;
      offers = offers_next g c.args.rows.now r c.args.most c.loop-step.least c.with_offer_of_step-least.result c.in-Some.step c.next.new.self c.loop-step.place is c.with_offer_of_step-least.ensures;
    }

pub returns : goal.returns
returns c =
    let g = game_of c.args.game.now in
    let r = c.args.row.now in
    offers_end g c.args.rows.now r c.args.most c.loop-step.least c.loop-step.place
    (subst (λ ss. OffersSoFar g c.args.rows.now r c.args.most c.loop-step.least ss c.loop-step.place) c.in-None.ensures.steps.0 c.loop-step.invariant.offers)
