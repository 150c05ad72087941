use Rattle.std.proofs.Common.{length, subst, ap, arith}
use Rattle.cover_cert.specs.CoverReadings.{numbers_in}
use Rattle.cover_cert.specs.CoverReadings.{BeginsWithNone, BeginsWithNumbers}
use Rattle.cover_cert.proofs.CoverParts.{no_header, no_rows, not_all}
use Rattle.cover_cert.proofs.reading.read_cover.Goals as goal

pub returns-in-None-clause-shape : goal.returns-in-None-clause-shape
returns-in-None-clause-shape c _ = no_header c.args.bytes.now (subst (BeginsWithNone BeginsWithNumbers) c.new-cursor.ensures c.in-None.ensures)

pub returns-in-Err-clause-shape : goal.returns-in-Err-clause-shape
returns-in-Err-clause-shape c is =
    let begins = subst (λ bytes. BeginsWithNumbers bytes c.read_header.new.cursor (numbers_in c.in-Some.header)) c.new-cursor.ensures c.in-Some.ensures in
    no_rows c.args.bytes.now c.read_header.new.cursor (numbers_in c.in-Some.header) begins (c.in-Err.ensures.shape is)

pub returns-then-left-gt0-clause-shape : goal.returns-then-left-gt0-clause-shape
returns-then-left-gt0-clause-shape c _ =
    let begins = subst (λ bytes. BeginsWithNumbers bytes c.read_header.new.cursor (numbers_in c.in-Some.header)) c.new-cursor.ensures c.in-Some.ensures in
    not_all c.args.bytes.now c.read_header.new.cursor c.read_rows.new.cursor (numbers_in c.in-Some.header) c.in-Ok.rows.items begins c.in-Ok.ensures.ok
    (λ none. let many = ap length none in let left = c.left.ensures in let some = c.if-left-gt0.true in omega arith)
