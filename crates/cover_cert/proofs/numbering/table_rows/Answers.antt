use Rattle.std.proofs.Common.{◌≤◌, length, map, sym, ap, ◌∙◌, subst}
use Rattle.potential_cert.specs.Order.{precedes}
use Rattle.potential_cert.specs.Table.{IsRising}
use Rattle.cover_cert.specs.CoverMaking.{full_row, made_rows}
use Rattle.cover_cert.specs.CoverNumbers.{AreKnown}
use Rattle.cover_cert.proofs.Numbered.{ordered_few, ordered_known, ordered_rise}
use Rattle.cover_cert.proofs.numbering.table_rows.Goals as goal

pub full_rows-requires-clause-rise : goal.full_rows-requires-clause-rise
full_rows-requires-clause-rise c =
    subst (IsRising precedes) (sym (c.deref-2.ensures.value ∙ c.in_ok-rows.ensures ∙ ap made_rows c.deref.ensures.value)) (ordered_rise c.args.made.items c.in_ok-sorted.sorted.items c.requires c.in_ok-sorted.ensures.members c.in_ok-sorted.ensures.sorted)

pub full_rows-requires-clause-few : goal.full_rows-requires-clause-few
full_rows-requires-clause-few c =
    subst (λ rows. length rows ≤ 4294967295) (sym (c.deref-2.ensures.value ∙ c.in_ok-rows.ensures ∙ ap made_rows c.deref.ensures.value)) (ordered_few c.args.made.items c.in_ok-sorted.sorted.items c.requires c.in_ok-sorted.ensures.members)

pub full_rows-requires-clause-known : goal.full_rows-requires-clause-known
full_rows-requires-clause-known c =
    subst (AreKnown c.deref-2.result.now) (sym c.deref-3.ensures.value)
    (subst (λ rows. AreKnown rows c.in_ok-sorted.sorted.items) (sym (c.deref-2.ensures.value ∙ c.in_ok-rows.ensures ∙ ap made_rows c.deref.ensures.value)) (ordered_known c.args.made.items c.in_ok-sorted.sorted.items c.requires c.in_ok-sorted.ensures.members))

pub returns : goal.returns
returns c = record {
  sorted = c.in_ok-sorted.sorted.items;
  moved = c.in_ok-sorted.ensures.members;
  rise = ordered_rise c.args.made.items c.in_ok-sorted.sorted.items c.requires c.in_ok-sorted.ensures.members c.in_ok-sorted.ensures.sorted;
  full = c.in_ok-full.ensures ∙ ap (λ rows. map (full_row rows) c.deref-3.result.now) (c.deref-2.ensures.value ∙ c.in_ok-rows.ensures ∙ ap made_rows c.deref.ensures.value)
      ∙ ap (map (full_row (made_rows c.in_ok-sorted.sorted.items))) c.deref-3.ensures.value;
}
