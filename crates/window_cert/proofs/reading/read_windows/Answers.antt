use Rattle.window_cert.specs.Faults.{in_first, in_second}
use Rattle.window_cert.proofs.Missing.{missing_number, number_begins}
use Rattle.std.proofs.Common.{◌+◌, sym, subst}
use Rattle.window_cert.specs.Bytes.{window_bytes, WindowFits}
use Rattle.window_cert.specs.Readings.{BeginsWithMany}
use Rattle.window_cert.proofs.Begins.{one_more}
use Rattle.window_cert.proofs.reading.read_windows.Goals as goal

pub returns-in-Err-clause-fault : goal.returns-in-Err-clause-fault
returns-in-Err-clause-fault c left e =
    in_second c.in-Some.count c.next_u32.new.cursor (number_begins c.args.cursor.now c.next_u32.new.cursor c.in-Some.count c.in-Some.ensures)
    (record {
      before = c.windows._k;
      less = c.windows-test.true;
      items = c.windows.windows.items;
      rest = c.windows.cursor;
      read = c.windows.invariant;
      fault = c.in-Err.ensures.fault left e;
    })

pub windows-preserved : goal.windows-preserved
windows-preserved c =
    subst (BeginsWithMany (window_bytes c.args.vertices) (WindowFits c.args.vertices) (c.windows._k + 1) c.next_u32.new.cursor c.read_window.new.cursor) (sym c.in_ok-push.ensures.items)
    (one_more (window_bytes c.args.vertices) (WindowFits c.args.vertices) c.windows._k c.next_u32.new.cursor c.windows.cursor c.read_window.new.cursor c.windows.windows.items c.in-Ok.window c.windows.invariant c.in-Ok.ensures.ok)

pub returns-in-None-clause-fault : goal.returns-in-None-clause-fault
returns-in-None-clause-fault c left e = in_first (missing_number c.args.cursor.now c.left-left.result left c.in-None.ensures c.left-left.ensures e)
