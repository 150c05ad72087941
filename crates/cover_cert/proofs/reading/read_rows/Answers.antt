use Rattle.std.proofs.Common.{◌+◌, sym, subst}
use Rattle.cover_cert.specs.CoverReadings.{BeginsWithRows}
use Rattle.cover_cert.proofs.CoverPieces.{row_more, no_row_more}
use Rattle.cover_cert.proofs.reading.read_rows.Goals as goal

pub loop-k-preserved : goal.loop-k-preserved
loop-k-preserved c =
    subst (BeginsWithRows c.args.words (c.loop-k._k + 1) c.args.cursor.now c.read_row.new.cursor) (sym c.in_ok-push.ensures.items)
    (row_more c.args.words c.loop-k._k c.args.cursor.now c.loop-k.cursor c.read_row.new.cursor c.loop-k.rows.items c.in-Ok.row c.loop-k.invariant c.in-Ok.ensures.ok)

pub returns-in-Err-clause-shape : goal.returns-in-Err-clause-shape
returns-in-Err-clause-shape c is =
    no_row_more c.args.words c.requires c.loop-k._k c.args.count c.args.cursor.now c.loop-k.cursor c.loop-k.rows.items c.loop-k.invariant c.loop-k-test.true (c.in-Err.ensures.shape is)
