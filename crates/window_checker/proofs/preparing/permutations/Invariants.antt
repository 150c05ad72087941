use Rattle.std.proofs.Common.{take}
use Rattle.window_checker.specs.ValidCerts.{ArePermutations}
use Rattle.window_checker.proofs.preparing.permutations.Given as goal

abbrev pub invariant-loop-renaming : goal.invariant-loop-renaming
invariant-loop-renaming l = ArePermutations l.vertices (take l.renaming-index l.renamings) l.found.items
