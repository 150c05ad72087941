use Rattle.std.proofs.Common.{◌∙◌, ◌^◌, ◌<◌, ap, subst}
use Rattle.comp_graph.specs.Lists.{IsIn}
use Rattle.cover_cert.specs.declared.tables.Cover.{Cover}
use Rattle.cover_cert.specs.CoverBytes.{NameFits}
use Rattle.cover_cert.proofs.writing.add_row.Goals as goal

pub returns-clause-fit : goal.returns-clause-fit
returns-clause-fit c = record {
  cost = subst (λ r. r.cost < 2 ^ 32) c.row.view_is c.in_ok-add_u32.ensures.small;
  names = subst (λ ns. (n : Cover) → IsIn n ns → NameFits n) (c.deref.ensures.value ∙ ap (λ r. r.names) c.row.view_is) c.in_ok-add_names.ensures.fit;
}
