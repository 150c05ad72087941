use Rattle.std.proofs.Common.{◌++◌, [], ◌∷◌, map, sym, ap, ◌∙◌, subst}
use Rattle.comp_graph.specs.Lists.{IsIn}
use Rattle.potential_cert.specs.Table.{HasRow}
use Rattle.potential_cert.proofs.Places.{at_in, index_at}
use Rattle.cover_cert.specs.declared.making.Name.{Name}
use Rattle.cover_cert.specs.CoverMaking.{full_row, numbered_name}
use Rattle.cover_cert.proofs.MadeLists.{mapped_more}
use Rattle.cover_cert.proofs.numbering.full_rows.Goals as goal

pub numbered-requires-clause-known : goal.numbered-requires-clause-known
numbered-requires-clause-known c =
    let m = c.index-made-k.result in
    let at = index_at m m c.loop-k.k c.args.made.now c.loop-k-test.true (sym c.index-made-k.is) in
    subst (λ ns. (n : Name) → IsIn n ns → HasRow c.args.rows.now n.by) (sym c.deref.ensures.value) (c.requires.known m (at_in m c.loop-k.k c.args.made.now at))

pub loop-k-preserved : goal.loop-k-preserved
loop-k-preserved c =
    let m = c.index-made-k.result in
    let at = index_at m m c.loop-k.k c.args.made.now c.loop-k-test.true (sym c.index-made-k.is) in
    let names = c.in_ok-names.ensures ∙ ap (map (numbered_name c.args.rows.now)) c.deref.ensures.value in
    c.in_ok-push.ensures.items ∙ ap (λ ns. c.loop-k.full.items ++ record { position = m.position; cost = m.cost; names = ns } ∷ []) names
    ∙ ap (λ xs. xs ++ full_row c.args.rows.now m ∷ []) c.loop-k.invariant ∙ sym (mapped_more (full_row c.args.rows.now) m c.loop-k.k c.args.made.now at)
