use Rattle.std.proofs.Common.{sym, subst, arith}
use Rattle.comp_graph.specs.Vertices.{AllBelow}
use Rattle.window_cert.proofs.PieceLaws.{empty_below, none_set, byte_left}
use Rattle.window_cert.proofs.pieces.take_set.Goals as goal

pub bytes-init : goal.bytes-init
bytes-init c = record {
  below = subst (AllBelow 0) (sym c.empty-set.ensures) (empty_below 0);
  bytes = none_set c.empty-set.result c.args.cursor.now;
}

pub take_u8-byte-requires : goal.take_u8-byte-requires
take_u8-byte-requires c =
    let left = byte_left c.bytes.k c.bytes.set c.args.cursor.now c.bytes.cursor c.bytes.invariant.bytes in
    let long = c.requires.long in
    let less = c.bytes-test.true in
    omega arith
