use Rattle.std.proofs.Common.{length, refl, ap, ◌∙◌}
use Rattle.branch_bound.proofs.FoundLaws.{table_is}
use Rattle.branch_bound.proofs.searching.table_of.Goals as goal

pub returns : goal.returns
returns c =
    table_is c.floor_at_ends.ensures.finish c.args.game.now c.requires.game c.args.first.now c.requires.finishing c.args.budget c.args.frontier.now c.args.best.now c.requires.searched c.requires.frontier
    c.in_ok-rows.rows.items c.in_ok-rows.ensures.members c.in_ok-rows.ensures.sorted _ (c.len.ensures.value ∙ ap (λ g. length g.nodes) c.graph.ensures.value) c.slots.ensures.value
    (ap (λ w. w.load) c.weights.ensures.value) (ap (λ w. w.store) c.weights.ensures.value) refl c.bound.ensures
