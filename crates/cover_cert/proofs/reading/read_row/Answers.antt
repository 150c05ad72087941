use Rattle.std.proofs.Common.{arith}
use Rattle.cover_cert.proofs.CoverPieces.{short_row, short_names}
use Rattle.potential_cert.proofs.Pieces.{after_cost, after_set}
use Rattle.cover_cert.proofs.reading.read_row.Goals as goal

pub returns-in-None-next_set-clause-shape : goal.returns-in-None-next_set-clause-shape
returns-in-None-next_set-clause-shape c _ =
    let cost = after_cost c.args.cursor.now c.next_u32.new.cursor c.in-Some.cost c.in-Some.ensures in
    short_row c.args.words c.requires c.args.cursor.now (let short = c.in-None-next_set.ensures in omega arith)

pub returns-in-None-next_set-2-clause-shape : goal.returns-in-None-next_set-2-clause-shape
returns-in-None-next_set-2-clause-shape c _ =
    let cost = after_cost c.args.cursor.now c.next_u32.new.cursor c.in-Some.cost c.in-Some.ensures in
    let red = after_set c.args.words c.requires c.next_u32.new.cursor c.next_set.new.cursor c.in-Some-next_set.red c.in-Some-next_set.ensures in
    short_row c.args.words c.requires c.args.cursor.now (let short = c.in-None-next_set-2.ensures in omega arith)

pub returns-in-None-next_u16-clause-shape : goal.returns-in-None-next_u16-clause-shape
returns-in-None-next_u16-clause-shape c _ =
    let cost = after_cost c.args.cursor.now c.next_u32.new.cursor c.in-Some.cost c.in-Some.ensures in
    let red = after_set c.args.words c.requires c.next_u32.new.cursor c.next_set.new.cursor c.in-Some-next_set.red c.in-Some-next_set.ensures in
    let blue = after_set c.args.words c.requires c.next_set.new.cursor c.next_set-2.new.cursor c.in-Some-next_set-2.blue c.in-Some-next_set-2.ensures in
    short_row c.args.words c.requires c.args.cursor.now (let short = c.in-None-next_u16.ensures in omega arith)

pub returns-in-Err-clause-shape : goal.returns-in-Err-clause-shape
returns-in-Err-clause-shape c is =
    short_names c.args.words c.requires c.args.cursor.now c.next_u32.new.cursor c.next_set.new.cursor c.next_set-2.new.cursor c.next_u16.new.cursor
    c.in-Some.cost c.in-Some-next_set.red c.in-Some-next_set-2.blue c.in-Some-next_u16.count c.in-Some.ensures c.in-Some-next_set.ensures c.in-Some-next_set-2.ensures c.in-Some-next_u16.ensures (c.in-Err.ensures.shape is)
