use Rattle.window_cert.specs.Faults.{in_first, in_second}
use Rattle.window_cert.proofs.Missing.{missing_number, number_begins}
use Rattle.std.proofs.Common.{◌+◌, sym, subst}
use Rattle.window_cert.specs.Bytes.{renaming_bytes, RenamingFits}
use Rattle.window_cert.specs.Readings.{BeginsWithMany}
use Rattle.window_cert.proofs.Begins.{one_more}
use Rattle.window_cert.proofs.parts.read_renamings.Goals as goal

pub returns-in-Err-clause-fault : goal.returns-in-Err-clause-fault
returns-in-Err-clause-fault c left e =
    in_second c.in-Some.count c.next_u32.new.cursor (number_begins c.args.cursor.now c.next_u32.new.cursor c.in-Some.count c.in-Some.ensures)
    (record {
      before = c.renamings._k;
      less = c.renamings-test.true;
      items = c.renamings.renamings.items;
      rest = c.renamings.cursor;
      read = c.renamings.invariant;
      fault = c.in-Err.ensures.fault left e;
    })

pub renamings-preserved : goal.renamings-preserved
renamings-preserved c =
    subst (BeginsWithMany renaming_bytes (RenamingFits c.args.vertices) (c.renamings._k + 1) c.next_u32.new.cursor c.read_renaming.new.cursor) (sym c.in_ok-push.ensures.items)
    (one_more renaming_bytes (RenamingFits c.args.vertices) c.renamings._k c.next_u32.new.cursor c.renamings.cursor c.read_renaming.new.cursor c.renamings.renamings.items c.in-Ok.renaming c.renamings.invariant c.in-Ok.ensures.ok)

pub returns-in-None-clause-fault : goal.returns-in-None-clause-fault
returns-in-None-clause-fault c left e = in_first (missing_number c.args.cursor.now c.left-left.result left c.in-None.ensures c.left-left.ensures e)
