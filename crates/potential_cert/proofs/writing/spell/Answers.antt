use Rattle.std.proofs.Common.{ap, ◌∙◌, subst}
use Rattle.potential_cert.specs.TableBytes.{AreWords}
use Rattle.potential_cert.proofs.writing.spell.Goals as goal

pub returns-clause-costs : goal.returns-clause-costs
returns-clause-costs c = subst AreWords (c.deref.ensures.value ∙ ap (λ t. t.rows) c.t.view_is) c.in_ok-add_rows.ensures.costs
