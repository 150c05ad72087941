use Rattle.std.proofs.Common.{◌<◌}
use Rattle.comp_graph.specs.Vertices.{AllBelow}
use Rattle.comp_graph.specs.Words.{set_of_words}
use Rattle.window_images.specs.Permutations.{ArePermutationParts, renaming}
use Rattle.window_images.specs.Making.{IsDone, from_word}
use Rattle.window_images.proofs.permutation.Permutation.image.Given as goal

abbrev pub invariant-loop-k : goal.invariant-loop-k
invariant-loop-k l =
    IsDone (renaming l.self) l.set (from_word l.set l.k) (set_of_words l.words) × (0 < l.k → AllBelow 256 l.set) × (0 < l.k → ArePermutationParts l.self)
