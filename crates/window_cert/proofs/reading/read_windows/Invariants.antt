use Rattle.window_cert.specs.Bytes.{window_bytes, WindowFits}
use Rattle.window_cert.specs.Readings.{BeginsWithMany}
use Rattle.window_cert.proofs.reading.read_windows.Given as goal

abbrev pub invariant-windows : goal.invariant-windows
invariant-windows l = BeginsWithMany (window_bytes l.vertices) (WindowFits l.vertices) l._k l.initial.cursor l.cursor l.windows.items
