-- The bound of one part more is found, and at the end they add up.
use Rattle.std.proofs.Common.{◌≡◌, ◌+◌, length, sym, ap, subst, arith}
use Rattle.comp_graph.specs.Vertices.{AllBelow}
use Rattle.comp_graph.specs.Games.{game_of}
use Rattle.comp_graph.proofs.Sets.{AllBelow-set_below}
use Rattle.part_bounds.specs.Cuts.{cut_game}
use Rattle.part_bounds.specs.Bounds.{IsPartBound}
use Rattle.part_bounds.proofs.PartSearches.{AreFoundBelow, set_is_part, one_more_found, all_found}
use Rattle.part_bounds.proofs.searching.part_search.Goals as goal

pub part_bound-requires-clause-below : goal.part_bound-requires-clause-below
part_bound-requires-clause-below c =
    subst (AllBelow (length c.args.game.now.graph.nodes))
    (sym (set_is_part c.args.game.now.graph c.args.parts c.loop-part.part-index c.in_ok-sets.sets.items c.deref-part-items.result.now c.part-item.result c.in_ok-sets.ensures c.deref-part-items.ensures.value c.loop-part-test.true c.part-item.is))
    (AllBelow-set_below _ _)

pub loop-part-preserved : goal.loop-part-preserved
loop-part-preserved c =
    let k = c.loop-part.part-index in
    let is =
    subst (λ s. IsPartBound (cut_game (game_of c.args.game.now) s) c.args.budget c.in_ok-part_bound.field-0)
    (set_is_part c.args.game.now.graph c.args.parts k c.in_ok-sets.sets.items c.deref-part-items.result.now c.part-item.result c.in_ok-sets.ensures c.deref-part-items.ensures.value c.loop-part-test.true c.part-item.is)
    c.in_ok-part_bound.ensures in
    subst (AreFoundBelow c.args.game.now c.args.parts c.args.budget (k + 1)) (sym c.in_ok-push.ensures.items)
    (one_more_found c.args.game.now c.args.parts c.args.budget k c.loop-part.found.items c.in_ok-part_bound.field-0 c.loop-part.invariant is)

pub returns : goal.returns
returns c =
    let past = c.loop-part-test.false in
    let index = c.loop-part.auto.part-index-end in
    let items = ap length c.deref-part-items.ensures.value in
    let count = c.in_ok-sets.ensures.count in
    let last : c.loop-part.part-index ≡ c.args.parts = omega arith in
    all_found c.valid_tables_bound_pebblings.ensures.pebblings c.args.game.now c.slots-slots.ensures.valid c.args.parts c.args.budget c.loop-part.found.items
    (subst (λ n. AreFoundBelow c.args.game.now c.args.parts c.args.budget n c.loop-part.found.items) last c.loop-part.invariant)
