use Rattle.std.proofs.Common.{not, ap, sym, ◌∙◌}
use Rattle.std.specs.FinSet.{contains}
use Rattle.comp_graph.proofs.DagLaws.{any_below_at}
use Rattle.window_floor.proofs.grouping.is_first.Goals as goal

pub returns-then-has : goal.returns-then-has
returns-then-has c =
    sym (ap not (any_below_at c.args.v c.loop-u.u (λ u. contains c.args.members.now u) c.loop-u-test.true (sym c.has.ensures.value ∙ c.if-has.true)))
