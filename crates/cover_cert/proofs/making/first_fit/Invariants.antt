use Rattle.std.proofs.Common.{◌∷◌, take}
use Rattle.cover_cert.specs.CoverMaking.{FitsFirst, made_rows}
use Rattle.cover_cert.proofs.making.first_fit.Given as goal

abbrev pub invariant-loop-k : goal.invariant-loop-k
invariant-loop-k l = FitsFirst (l.row ∷ made_rows (take l.k l.made)) l.wanted l.most l.first
