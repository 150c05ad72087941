use Rattle.std.proofs.Common.{◌≡◌, ◌++◌, ◌*◌}
use Rattle.comp_graph.specs.Vertices.{AllBelow}
use Rattle.window_cert.specs.Bytes.{first_bytes}
use Rattle.window_cert.proofs.pieces.take_set.Given as goal

abbrev pub invariant-bytes : goal.invariant-bytes
invariant-bytes l = record {
  below : AllBelow (8 * l.k) l.set;
  bytes : l.fn.cursor ≡ first_bytes l.k l.set ++ l.cursor;
}
