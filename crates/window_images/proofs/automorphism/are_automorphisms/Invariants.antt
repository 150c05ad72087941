use Rattle.std.proofs.Common.{ℕ, ◌<◌, slice_index_or}
use Rattle.comp_graph.specs.Games.{game_of}
use Rattle.window_laws.specs.Images.{IsAutomorphism}
use Rattle.window_steps.specs.Sets.{window_of}
use Rattle.window_images.specs.Permutations.{PermutationParts, renaming}
use Rattle.window_images.proofs.automorphism.are_automorphisms.Given as goal

abbrev pub invariant-loop-permutation : goal.invariant-loop-permutation
invariant-loop-permutation l =
    (k : ℕ) (d : PermutationParts) → k < l.permutation-index → IsAutomorphism (game_of l.game) (window_of l.window) (renaming (slice_index_or l.permutations k d))
