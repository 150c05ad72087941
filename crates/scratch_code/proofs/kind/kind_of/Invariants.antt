-- The word is that of none of the kinds so far.
use Rattle.std.proofs.Common.{◌≡◌, drop}
use Rattle.scratch_code.proofs.FirstWords.{found, all_kinds}
use Rattle.scratch_code.proofs.kind.kind_of.Given as goal

abbrev pub invariant-loop-kind : goal.invariant-loop-kind
invariant-loop-kind l = record {
  table : l.kind-items ≡ all_kinds;
  past : found l.word (drop l.kind-index l.kind-items) ≡ found l.word all_kinds;
}
