use Rattle.std.proofs.Common.{◌+◌, take, sym}
use Rattle.std.specs.Prelude.{flat_map}
use Rattle.potential_cert.proofs.Places.{index_at, at_in}
use Rattle.potential_cert.proofs.Written.{added_more, piece_more}
use Rattle.cert_checker.proofs.Checked.{each_in, each_row}
use Rattle.cert_checker.proofs.RowTests.{each_more}
use Rattle.cover_cert.specs.CoverBytes.{cover_row_bytes, AreRowWords}
use Rattle.cover_cert.proofs.writing.add_rows.Goals as goal

pub add_row-requires-clause-names : goal.add_row-requires-clause-names
add_row-requires-clause-names c =
    let r = c.index-rows-k.result in
    let at = index_at r r c.loop-k.k c.args.rows.now c.loop-k-test.true (sym c.index-rows-k.is) in
    c.requires.names r (at_in r c.loop-k.k c.args.rows.now at)

pub loop-k-preserved : goal.loop-k-preserved
loop-k-preserved c =
    let rows = c.args.rows.now in
    let k = c.loop-k.k in
    let r = c.index-rows-k.result in
    let at = index_at r r k rows c.loop-k-test.true (sym c.index-rows-k.is) in
    record {
      bytes = added_more c.args.bytes.now.items c.loop-k.bytes.items c.add_row.new.bytes.items (flat_map (cover_row_bytes c.args.words) (take k rows)) (cover_row_bytes c.args.words r)
          (flat_map (cover_row_bytes c.args.words) (take (k + 1) rows)) c.loop-k.invariant.bytes c.in_ok-add_row.ensures.bytes (piece_more (cover_row_bytes c.args.words) r k rows at);
      fit = each_more AreRowWords rows k r at c.in_ok-add_row.ensures.fit c.loop-k.invariant.fit;
    }

pub returns-clause-fit : goal.returns-clause-fit
returns-clause-fit c = each_in AreRowWords c.args.rows.now (each_row AreRowWords c.args.rows.now c.loop-k.k c.loop-k-test.false c.loop-k.invariant.fit)
