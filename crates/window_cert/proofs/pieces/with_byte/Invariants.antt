use Rattle.window_cert.proofs.Grown.{IsGrown}
use Rattle.window_cert.proofs.pieces.with_byte.Given as goal

abbrev pub invariant-bits : goal.invariant-bits
invariant-bits l = IsGrown l.set l.k l.byte l.i l.grown
