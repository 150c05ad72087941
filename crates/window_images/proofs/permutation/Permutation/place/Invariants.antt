use Rattle.window_images.specs.Permutations.{renaming}
use Rattle.window_images.proofs.SetImages.{IsPlacing}
use Rattle.window_images.proofs.permutation.Permutation.place.Given as goal

abbrev pub invariant-loop-rest : goal.invariant-loop-rest
invariant-loop-rest l = IsPlacing (renaming (record { there = l.self-inside.there; back = l.self-inside.back })) l.set l.k l.rest l.image l.first

abbrev pub decreases-loop-rest : goal.decreases-loop-rest
decreases-loop-rest l = l.rest
