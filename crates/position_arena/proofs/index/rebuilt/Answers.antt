-- One row more is found, and a free place is left.
use Rattle.std.proofs.Common.{◌≡◌, [], length, vec_len, sym, ◌∙◌, subst, arith, rules}
use Rattle.position_arena.specs.Index.{IsIndex}
use Rattle.position_arena.proofs.IndexLaws.{empty_index, row_indexed}
use Rattle.position_arena.proofs.index.rebuilt.Goals as goal

pub rows-init : goal.rows-init
rows-init c =
    let fresh = c.in_ok-places.ensures.items_if_clones_equal (λ y e. e) in
    let size : vec_len c.in_ok-places.places ≡ length c.in_ok-places.places.items = search rules in
    (subst (IsIndex []) (sym fresh) (empty_index c.args.size), sym size ∙ c.in_ok-places.ensures.len)

pub rows-preserved : goal.rows-preserved
rows-preserved c =
    let size : vec_len c.rows.places ≡ length c.rows.places.items = search rules in
    row_indexed c.args.width c.args.store.now.rows c.rows.k c.args.size c.rows.places.len c.hash.result c.rows.places.items c.deref_mut.result.now c.insert.new.places c.row-row.result.now
    (omega (arith, c.rows-test.true, c.len-k-end.ensures)) c.requires.room c.requires.few c.rows.invariant.0 c.rows.invariant.1 c.deref_mut.ensures.value c.row-row.ensures c.hash.ensures c.insert.ensures size
