use Rattle.std.proofs.Common.{arith}
use Rattle.cover_cert.proofs.CoverParts.{first_numbers}
use Rattle.cover_cert.proofs.reading.read_header.Goals.{then-slots-lt1-via-then-slots-lt1, then-slots-lt1-via-else-slots-lt1+then-slots-gt64, then-slots-lt1-via-else-slots-lt1+else-slots-gt64+then-load-lt1, then-slots-lt1-via-else-slots-lt1+else-slots-gt64+else-load-lt1+then-load-gt16, then-slots-lt1-via-else-slots-lt1+else-slots-gt64+else-load-lt1+else-load-gt16+then-store-lt1, then-slots-lt1-via-else-slots-lt1+else-slots-gt64+else-load-lt1+else-load-gt16+else-store-lt1+then-store-gt16}
use Rattle.cover_cert.proofs.reading.read_header.Goals as goal

pub returns-then-slots-lt1 : goal.returns-then-slots-lt1
returns-then-slots-lt1 c rest x begins =
    let first = first_numbers c.args.cursor.now c.next_u32.new.cursor c.next_u16.new.cursor c.next_u16-2.new.cursor c.next_u16-3.new.cursor c.next_u8.new.cursor c.next_u8-2.new.cursor
    c.in_ok-mark.mark c.in_ok-version.version c.in_ok-vertices.vertices c.in_ok-slots.slots c.in_ok-load.load c.in_ok-store.store
    c.in_ok-mark.ensures c.in_ok-version.ensures c.in_ok-vertices.ensures c.in_ok-slots.ensures c.in_ok-load.ensures c.in_ok-store.ensures rest x begins in
    elim c.then-slots-lt1.branch [
      | then-slots-lt1-via-then-slots-lt1 w ↦ let test = w.if-slots-lt1.true in let fit = begins.fit.some_slots in let same = first.slots in absurd (omega arith)
      | then-slots-lt1-via-else-slots-lt1+then-slots-gt64 w ↦ let test = w.if-slots-gt64.true in let fit = begins.fit.slots in let same = first.slots in absurd (omega arith)
      | then-slots-lt1-via-else-slots-lt1+else-slots-gt64+then-load-lt1 w ↦ let test = w.if-load-lt1.true in let fit = begins.fit.some_load in let same = first.load in absurd (omega arith)
      | then-slots-lt1-via-else-slots-lt1+else-slots-gt64+else-load-lt1+then-load-gt16 w ↦ let test = w.if-load-gt16.true in let fit = begins.fit.load in let same = first.load in absurd (omega arith)
      | then-slots-lt1-via-else-slots-lt1+else-slots-gt64+else-load-lt1+else-load-gt16+then-store-lt1 w ↦ let test = w.if-store-lt1.true in let fit = begins.fit.some_store in let same = first.store in absurd (omega arith)
      | then-slots-lt1-via-else-slots-lt1+else-slots-gt64+else-load-lt1+else-load-gt16+else-store-lt1+then-store-gt16 w ↦ let test = w.if-store-gt16.true in let fit = begins.fit.store in let same = first.store in absurd (omega arith)
    ]
