use Rattle.std.proofs.Common.{ℕ, ◌<◌}
use Rattle.comp_graph.specs.Vertices.{◌∈◌}
use Rattle.comp_graph.specs.Games.{game_of}
use Rattle.window_steps.specs.Sets.{window_of}
use Rattle.window_images.specs.Permutations.{renaming}
use Rattle.window_images.specs.Automorphisms.{KeepsWork}
use Rattle.window_images.proofs.automorphism.keeps_workers.Given as goal

abbrev pub invariant-loop-v : goal.invariant-loop-v
invariant-loop-v l = (u : ℕ) → u < l.v → u ∈ l.workers → KeepsWork (game_of l.game) (window_of l.window) l.workers (renaming l.permutation) u
