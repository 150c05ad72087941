use Rattle.std.proofs.Common.{◌≡◌, ◌++◌, take}
use Rattle.std.specs.Prelude.{flat_map}
use Rattle.window_cert.specs.Bytes.{renaming_bytes}
use Rattle.window_cert.proofs.writing.add_renamings.Given as goal

abbrev pub invariant-loop-renaming : goal.invariant-loop-renaming
invariant-loop-renaming l = l.bytes.items ≡ l.initial.bytes.items ++ flat_map renaming_bytes (take l.renaming-index l.renamings)
