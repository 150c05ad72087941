use Rattle.std.proofs.Common.{◌≡◌, ◌+◌, ltb, sym, ap, ◌∙◌, subst}
use Rattle.std.specs.FinSet.{contains}
use Rattle.comp_graph.specs.Sets.{has_empty}
use Rattle.cert_checker.proofs.RowTests.{below_more, none_below}
use Rattle.cert_checker.proofs.row_tests.numbers_below.Goals as goal

pub loop-v-init : goal.loop-v-init
loop-v-init c v = ap (λ s. contains s v) c.empty-all.ensures ∙ has_empty v ∙ none_below v

pub loop-v-preserved : goal.loop-v-preserved
loop-v-preserved c v = subst (λ s. contains s v ≡ ltb v (c.loop-v.v + 1)) (sym c.with-all.ensures) (below_more c.loop-v.all c.loop-v.v c.loop-v.invariant v)
