-- After k values: 256 words, of which those below k hold the values, and the others nothing.
use Rattle.std.proofs.Common.{◌≡◌, ℕ, ltb, cond, None, length, slice_get}
use Rattle.scratch_machine.specs.Exec.{cells_of}
use Rattle.scratch_machine.proofs.machine.Machine.begin.Given as goal

abbrev pub invariant-loop-k : goal.invariant-loop-k
invariant-loop-k l = record {
  sized : length l.words ≡ 256;
  filled : (q : ℕ) → cells_of l.words q ≡ cond (ltb q l.k) (slice_get l.values q) None;
}
