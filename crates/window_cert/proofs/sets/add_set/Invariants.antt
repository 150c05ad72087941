use Rattle.std.proofs.Common.{◌≡◌, ◌++◌}
use Rattle.window_cert.specs.Bytes.{first_bytes}
use Rattle.window_cert.proofs.sets.add_set.Given as goal

abbrev pub invariant-bytes : goal.invariant-bytes
invariant-bytes l = l.bytes.items ≡ l.fn.bytes.items ++ first_bytes l.k l.set
