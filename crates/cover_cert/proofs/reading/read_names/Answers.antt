use Rattle.std.proofs.Common.{◌+◌, sym, subst}
use Rattle.cover_cert.specs.CoverReadings.{BeginsWithNames}
use Rattle.cover_cert.proofs.CoverPieces.{name_more, no_name_step, no_name_row}
use Rattle.cover_cert.proofs.reading.read_names.Goals as goal

pub returns-in-None-clause-shape : goal.returns-in-None-clause-shape
returns-in-None-clause-shape c _ = no_name_step c.args.count c.loop-k._k c.args.cursor.now c.loop-k.cursor c.loop-k.names.items c.loop-k.invariant c.loop-k-test.true c.in-None.ensures

pub returns-in-None-next_u32-clause-shape : goal.returns-in-None-next_u32-clause-shape
returns-in-None-next_u32-clause-shape c _ =
    no_name_row c.args.count c.loop-k._k c.args.cursor.now c.loop-k.cursor c.next_u16.new.cursor c.loop-k.names.items c.in-Some.step c.loop-k.invariant c.loop-k-test.true c.in-Some.ensures c.in-None-next_u32.ensures

pub loop-k-preserved : goal.loop-k-preserved
loop-k-preserved c =
    subst (BeginsWithNames (c.loop-k._k + 1) c.args.cursor.now c.next_u32.new.cursor) (sym c.in_ok-push.ensures.items)
    (name_more c.loop-k._k c.args.cursor.now c.loop-k.cursor c.next_u16.new.cursor c.next_u32.new.cursor c.loop-k.names.items (record { step = c.in-Some.step; row = c.in-Some-next_u32.row }) c.loop-k.invariant c.in-Some.ensures c.in-Some-next_u32.ensures)
