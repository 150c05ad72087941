use Rattle.std.proofs.Common.{sym, ◌∙◌, subst, arith}
use Rattle.potential_cert.specs.Table.{IsRising}
use Rattle.potential_cert.specs.Order.{precedes}
use Rattle.window_cert.specs.Certs.{charged_of}
use Rattle.window_cert.specs.Faults.{in_first, in_second, in_rows, in_order}
use Rattle.window_cert.proofs.Missing.{same_left, missing_number, number_begins}
use Rattle.window_cert.proofs.reading.read_window.Goals as goal

pub returns-in-Err-clause-fault : goal.returns-in-Err-clause-fault
returns-in-Err-clause-fault c left e =
    in_first (c.in-Err.ensures.fault left e)

pub returns-in-Err-next_sets-clause-fault : goal.returns-in-Err-next_sets-clause-fault
returns-in-Err-next_sets-clause-fault c left e =
    in_second (charged_of c.in-Ok.charged) c.read_charged.new.cursor c.in-Ok.ensures.ok
    (in_first (c.in-Err-next_sets.ensures.fault left e))

pub returns-in-Err-read_renamings-clause-fault : goal.returns-in-Err-read_renamings-clause-fault
returns-in-Err-read_renamings-clause-fault c left e =
    in_second (charged_of c.in-Ok.charged) c.read_charged.new.cursor c.in-Ok.ensures.ok
    (in_second c.in-Ok-next_sets.sets c.next_sets.new.cursor c.in-Ok-next_sets.ensures.ok
    (in_first (c.in-Err-read_renamings.ensures.fault left e)))

pub returns-in-None-clause-fault : goal.returns-in-None-clause-fault
returns-in-None-clause-fault c left e =
    in_second (charged_of c.in-Ok.charged) c.read_charged.new.cursor c.in-Ok.ensures.ok
    (in_second c.in-Ok-next_sets.sets c.next_sets.new.cursor c.in-Ok-next_sets.ensures.ok
    (in_second c.in-Ok-read_renamings.renamings.items c.read_renamings.new.cursor c.in-Ok-read_renamings.ensures.ok
    (in_first (missing_number c.read_renamings.new.cursor c.left-left.result left c.in-None.ensures c.left-left.ensures e))))

pub returns-in-Err-read_rows-clause-fault : goal.returns-in-Err-read_rows-clause-fault
returns-in-Err-read_rows-clause-fault c left e =
    in_second (charged_of c.in-Ok.charged) c.read_charged.new.cursor c.in-Ok.ensures.ok
    (in_second c.in-Ok-next_sets.sets c.next_sets.new.cursor c.in-Ok-next_sets.ensures.ok
    (in_second c.in-Ok-read_renamings.renamings.items c.read_renamings.new.cursor c.in-Ok-read_renamings.ensures.ok
    (in_second c.in-Some.bound c.next_u32.new.cursor (number_begins c.read_renamings.new.cursor c.next_u32.new.cursor c.in-Some.bound c.in-Some.ensures)
    (in_rows (c.in-Err-read_rows.ensures.fault left e)))))

pub returns-then-not-are_rising-clause-fault : goal.returns-then-not-are_rising-clause-fault
returns-then-not-are_rising-clause-fault c left e =
    in_second (charged_of c.in-Ok.charged) c.read_charged.new.cursor c.in-Ok.ensures.ok
    (in_second c.in-Ok-next_sets.sets c.next_sets.new.cursor c.in-Ok-next_sets.ensures.ok
    (in_second c.in-Ok-read_renamings.renamings.items c.read_renamings.new.cursor c.in-Ok-read_renamings.ensures.ok
    (in_second c.in-Some.bound c.next_u32.new.cursor (number_begins c.read_renamings.new.cursor c.next_u32.new.cursor c.in-Some.bound c.in-Some.ensures)
    (in_order c.in-Ok-read_rows.rows.items c.read_rows.new.cursor c.in-Ok-read_rows.ensures.ok
    (λ rise.
    let test = c.are_rising.ensures.1 (subst (IsRising precedes) (sym c.deref.ensures.value) rise) in
    let out = c.if-not-are_rising.true in
    grind arith)
    (sym (same_left c.left-left-2.result left e) ∙ c.left-left-2.ensures)))))
