use Rattle.window_cert.specs.Bytes.{header_bytes, HeaderFits}
use Rattle.window_cert.specs.Faults.{in_first, in_second}
use Rattle.window_cert.proofs.Missing.{same_left, missing}
use Rattle.std.proofs.Common.{length, sym, ◌∙◌}
use Rattle.window_cert.specs.Headers.{numbers_in}
use Rattle.window_cert.proofs.CertRead.{cert_read, some_left, none_left}
use Rattle.window_cert.proofs.decoding.read_cert.Goals as goal

pub returns-clause-ok : goal.returns-clause-ok
returns-clause-ok c =
    cert_read c.args.cursor.now c.read_header.new.cursor (numbers_in c.in-Some.header) c.in-Some.ensures c.read_windows.new.cursor c.in-Ok.windows.items c.in-Ok.ensures.ok
    (none_left (length c.read_windows.new.cursor) (sym c.is_done.ensures ∙ c.if-not-is_done.false))

pub returns-in-None-clause-fault : goal.returns-in-None-clause-fault
returns-in-None-clause-fault c left e = in_first (missing header_bytes HeaderFits c.args.cursor.now c.left-left.result left c.in-None.ensures c.left-left.ensures e)

pub returns-in-Err-clause-fault : goal.returns-in-Err-clause-fault
returns-in-Err-clause-fault c left e = in_second (numbers_in c.in-Some.header) c.read_header.new.cursor c.in-Some.ensures (in_first (c.in-Err.ensures.fault left e))

pub returns-then-not-is_done-clause-fault : goal.returns-then-not-is_done-clause-fault
returns-then-not-is_done-clause-fault c left e =
    in_second (numbers_in c.in-Some.header) c.read_header.new.cursor c.in-Some.ensures
    (in_second c.in-Ok.windows.items c.read_windows.new.cursor c.in-Ok.ensures.ok
    (record {
      some = some_left (length c.read_windows.new.cursor) (sym c.is_done.ensures ∙ c.if-not-is_done.true);
      here = sym (same_left c.left-left-2.result left e) ∙ c.left-left-2.ensures;
    }))
