use Rattle.window_cert.specs.Bytes.{renaming_bytes, RenamingFits}
use Rattle.window_cert.specs.Readings.{BeginsWithMany}
use Rattle.window_cert.proofs.parts.read_renamings.Given as goal

abbrev pub invariant-renamings : goal.invariant-renamings
invariant-renamings l = BeginsWithMany renaming_bytes (RenamingFits l.vertices) l._k l.initial.cursor l.cursor l.renamings.items
