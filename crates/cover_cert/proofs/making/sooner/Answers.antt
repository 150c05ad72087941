use Rattle.std.proofs.Common.{inl, inr, refl, sym, subst}
use Rattle.potential_cert.proofs.RowSearch.{less_precedes, greater_precedes}
use Rattle.cover_cert.specs.CoverMaking.{IsSooner}
use Rattle.cover_cert.proofs.making.sooner.Goals as goal

pub returns-in-Less : goal.returns-in-Less
returns-in-Less c =
    let p = c.args.position.now in
    subst (λ o. IsSooner o p p) (sym c.in-Some.is) (inl (refl, less_precedes p c.in-Some.other c.order.result c.order.ensures.words c.in-Less.is))

pub returns-in-Greater : goal.returns-in-Greater
returns-in-Greater c =
    let p = c.args.position.now in
    subst (λ o. IsSooner o p c.in-Some.other) (sym c.in-Some.is) (inr (refl, inr (greater_precedes p c.in-Some.other c.order.result c.order.ensures.words c.in-Greater.is)))
