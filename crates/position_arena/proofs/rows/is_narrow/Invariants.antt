-- The words that must be 0 are 0 so far.
use Rattle.std.proofs.Common.{◌≡◌, ℕ, ◌<◌, ◌≤◌}
use Rattle.comp_graph.specs.Words.{word_of}
use Rattle.position_arena.proofs.rows.is_narrow.Given as goal

-- the words from the first that must be 0 are 0 so far
abbrev pub invariant-loop-k : goal.invariant-loop-k
invariant-loop-k l = (j : ℕ) → l.words ≤ j → j < l.k → word_of l.vertices j ≡ 0
