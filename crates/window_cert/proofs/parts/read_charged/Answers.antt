use Rattle.std.proofs.Common.{rules, ◌≤◌, arith}
use Rattle.comp_graph.specs.Vertices.{AllBelow}
use Rattle.window_cert.specs.Bytes.{set_bytes}
use Rattle.window_cert.specs.Faults.{in_first, in_second}
use Rattle.window_cert.proofs.Missing.{missing, missing_form, other_missing, form_begins}
use Rattle.window_cert.proofs.parts.read_charged.Goals as goal

pub returns-in-None-clause-fault : goal.returns-in-None-clause-fault
returns-in-None-clause-fault c left e = in_first (missing_form c.args.cursor.now c.left-start.result left c.in-None.ensures c.left-start.ensures e)

pub returns-in-Err-clause-fault : goal.returns-in-Err-clause-fault
returns-in-Err-clause-fault c left e =
    in_second 0 c.next_u8.new.cursor (form_begins c.args.cursor.now c.next_u8.new.cursor c.in-Some.form 0 c.in-Some.ensures c.in-0.is (omega arith)) (c.in-Err.ensures.fault left e)

pub returns-in-None-next_set-clause-fault : goal.returns-in-None-next_set-clause-fault
returns-in-None-next_set-clause-fault c left e =
    in_second 2 c.next_u8.new.cursor (form_begins c.args.cursor.now c.next_u8.new.cursor c.in-Some.form 2 c.in-Some.ensures c.in-2.is (omega arith))
    (missing (set_bytes c.args.vertices) (AllBelow c.args.vertices) c.next_u8.new.cursor c.left-left.result left c.in-None-next_set.ensures c.left-left.ensures e)

pub returns-in_default-clause-fault : goal.returns-in_default-clause-fault
returns-in_default-clause-fault c left e =
    let more : 3 ≤ c.in-Some.form = search rules in
    in_first (other_missing c.args.cursor.now c.next_u8.new.cursor c.in-Some.form c.left-start.result left c.in-Some.ensures more c.left-start.ensures e)
