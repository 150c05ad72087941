-- The words so far are mixed in.
use Rattle.std.proofs.Common.{◌≡◌, drop, fold}
use Rattle.position_arena.specs.Index.{mixed}
use Rattle.position_arena.proofs.index.hash.Given as goal

abbrev pub invariant-loop-word : goal.invariant-loop-word
invariant-loop-word l = fold mixed l.hash (drop l.word-index l.words) ≡ fold mixed 0 l.words
