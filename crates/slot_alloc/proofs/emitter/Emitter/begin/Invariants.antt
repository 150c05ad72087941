-- The slots below s are free, and the inputs below k have their words.
use Rattle.std.proofs.Common.{◌≡◌, ℕ, true, ltb, cond, length, get_or}
use Rattle.comp_graph.specs.Vertices.{set_below}
use Rattle.slot_alloc.proofs.emitter.Emitter.begin.Given as goal

abbrev pub invariant-loop-s : goal.invariant-loop-s
invariant-loop-s l = l.free ≡ set_below (λ s. true) l.s

abbrev pub invariant-loop-k : goal.invariant-loop-k
invariant-loop-k l = record {
  sized : length l.word_of ≡ 256;
  filled : (v : ℕ) → get_or l.word_of v 0 ≡ cond (ltb v l.k) v 0;
}
