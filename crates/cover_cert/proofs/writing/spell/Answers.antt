use Rattle.std.proofs.Common.{◌≤◌, length, sym, ap, ◌∙◌, subst}
use Rattle.comp_graph.specs.Lists.{IsIn}
use Rattle.cover_cert.specs.CoverBytes.{AreRowWords}
use Rattle.cover_cert.specs.CoverTable.{CoverRowParts}
use Rattle.cover_cert.proofs.writing.spell.Goals as goal

pub add_rows-requires-clause-names : goal.add_rows-requires-clause-names
add_rows-requires-clause-names c =
    subst (λ rows. (r : CoverRowParts) → IsIn r rows → length r.names ≤ 384) (sym (c.deref.ensures.value ∙ ap (λ t. t.rows) c.t.view_is)) c.requires.names

pub returns-clause-rows : goal.returns-clause-rows
returns-clause-rows c = subst (λ rows. (r : CoverRowParts) → IsIn r rows → AreRowWords r) (c.deref.ensures.value ∙ ap (λ t. t.rows) c.t.view_is) c.in_ok-add_rows.ensures.fit
