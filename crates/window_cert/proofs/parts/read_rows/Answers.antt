use Rattle.window_cert.specs.Faults.{in_first, in_second}
use Rattle.window_cert.proofs.Missing.{missing_number, number_begins}
use Rattle.std.proofs.Common.{◌+◌, sym, subst}
use Rattle.window_cert.specs.Bytes.{row_bytes, RowFits}
use Rattle.window_cert.specs.Readings.{BeginsWithMany}
use Rattle.window_cert.proofs.Begins.{one_more}
use Rattle.window_cert.proofs.parts.read_rows.Goals as goal

pub returns-in-Err-clause-fault : goal.returns-in-Err-clause-fault
returns-in-Err-clause-fault c left e =
    in_second c.in-Some.count c.next_u32.new.cursor (number_begins c.args.cursor.now c.next_u32.new.cursor c.in-Some.count c.in-Some.ensures)
    (record {
      before = c.rows._k;
      less = c.rows-test.true;
      items = c.rows.rows.items;
      rest = c.rows.cursor;
      read = c.rows.invariant;
      fault = c.in-Err.ensures.fault left e;
    })

pub rows-preserved : goal.rows-preserved
rows-preserved c =
    subst (BeginsWithMany (row_bytes c.args.vertices) (RowFits c.args.vertices) (c.rows._k + 1) c.next_u32.new.cursor c.next_row.new.cursor) (sym c.in_ok-push.ensures.items)
    (one_more (row_bytes c.args.vertices) (RowFits c.args.vertices) c.rows._k c.next_u32.new.cursor c.rows.cursor c.next_row.new.cursor c.rows.rows.items c.in-Ok.row c.rows.invariant c.in-Ok.ensures.ok)

pub returns-in-None-clause-fault : goal.returns-in-None-clause-fault
returns-in-None-clause-fault c left e = in_first (missing_number c.args.cursor.now c.left-left.result left c.in-None.ensures c.left-left.ensures e)
