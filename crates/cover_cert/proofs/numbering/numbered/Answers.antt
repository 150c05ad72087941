use Rattle.std.proofs.Common.{◌++◌, [], ◌∷◌, sym, ap, ◌∙◌}
use Rattle.potential_cert.proofs.Places.{at_in, index_at}
use Rattle.cover_cert.specs.CoverMaking.{numbered_name}
use Rattle.cover_cert.proofs.MadeLists.{mapped_more}
use Rattle.cover_cert.proofs.numbering.numbered.Goals as goal

pub number-row-requires-clause-known : goal.number-row-requires-clause-known
number-row-requires-clause-known c =
    let n = c.name-item.result in
    let at = index_at n n c.loop-name.name-index c.args.names.now c.loop-name-test.true (sym c.name-item.is) in
    c.requires.known n (at_in n c.loop-name.name-index c.args.names.now at)

pub loop-name-preserved : goal.loop-name-preserved
loop-name-preserved c =
    let n = c.name-item.result in
    let names = c.args.names.now in
    let k = c.loop-name.name-index in
    let at = index_at n n k names c.loop-name-test.true (sym c.name-item.is) in
    c.in_ok-push.ensures.items ∙ ap (λ row. c.loop-name.numbers.items ++ record { step = n.step; row = row } ∷ []) c.number-row.ensures
    ∙ ap (λ xs. xs ++ numbered_name c.args.rows.now n ∷ []) c.loop-name.invariant ∙ sym (mapped_more (numbered_name c.args.rows.now) n k names at)
