use Rattle.std.proofs.Common.{◌≡◌, ◌++◌, take}
use Rattle.std.specs.Prelude.{flat_map}
use Rattle.window_cert.specs.Bytes.{window_bytes}
use Rattle.window_cert.proofs.writing.add_windows.Given as goal

abbrev pub invariant-loop-window : goal.invariant-loop-window
invariant-loop-window l = l.bytes.items ≡ l.initial.bytes.items ++ flat_map (window_bytes l.vertices) (take l.window-index l.windows)
