use Rattle.std.proofs.Common.{◌+◌, sym, subst, take}
use Rattle.std.specs.Prelude.{flat_map}
use Rattle.potential_cert.specs.TableBytes.{row_bytes, AreWords}
use Rattle.potential_cert.proofs.Places.{index_at}
use Rattle.potential_cert.proofs.Written.{piece_more, take_all, added_more, words_more, row_added}
use Rattle.potential_cert.proofs.writing.add_rows.Goals as goal

pub loop-row-preserved : goal.loop-row-preserved
loop-row-preserved c =
    let r = c.row-item.result in
    let k = c.loop-row.row-index in
    let rows = c.args.rows.now in
    let at = index_at r r k rows c.loop-row-test.true (sym c.row-item.is) in
    record {
      bytes = added_more c.args.bytes.now.items c.loop-row.bytes.items c.add_set-in-loop-row.new.bytes.items (flat_map (row_bytes c.args.words) (take k rows)) (row_bytes c.args.words r) (flat_map (row_bytes c.args.words) (take (k + 1) rows))
          c.loop-row.invariant.bytes
          (row_added c.args.words r c.loop-row.bytes.items c.add_u32.new.bytes.items c.add_set.new.bytes.items c.add_set-in-loop-row.new.bytes.items c.in_ok-add_u32.ensures.bytes c.in_ok-add_set.ensures c.in_ok-add_set-2.ensures)
          (piece_more (row_bytes c.args.words) r k rows at);
      costs = words_more r k rows at c.in_ok-add_u32.ensures.small c.loop-row.invariant.costs;
    }

pub returns-clause-costs : goal.returns-clause-costs
returns-clause-costs c = subst AreWords (take_all c.loop-row.row-index c.args.rows.now c.loop-row-test.false) c.loop-row.invariant.costs
