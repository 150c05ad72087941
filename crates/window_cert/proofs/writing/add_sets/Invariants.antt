use Rattle.std.proofs.Common.{◌≡◌, ◌++◌, take}
use Rattle.std.specs.Prelude.{flat_map}
use Rattle.window_cert.specs.Bytes.{set_bytes}
use Rattle.window_cert.proofs.writing.add_sets.Given as goal

abbrev pub invariant-loop-set : goal.invariant-loop-set
invariant-loop-set l = l.bytes.items ≡ l.initial.bytes.items ++ flat_map (set_bytes l.vertices) (take l.set-index l.sets)
