-- The word is not that of the kind either.
use Rattle.std.proofs.Common.{refl, rules, arith, ◌∙◌}
use Rattle.scratch_code.proofs.FirstWords.{passed_over, all_kinds}
use Rattle.scratch_code.proofs.kind.kind_of.Goals as goal

pub loop-kind-preserved : goal.loop-kind-preserved
loop-kind-preserved c = record {
  table = refl;
  past = passed_over c.args.word.now all_kinds c.loop-kind.kind-index (omega arith) (search rules) ∙ c.loop-kind.invariant.past;
}
