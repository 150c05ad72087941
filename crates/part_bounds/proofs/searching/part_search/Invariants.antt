-- The first parts have their bounds.
use Rattle.part_bounds.proofs.PartSearches.{AreFoundBelow}
use Rattle.part_bounds.proofs.searching.part_search.Given as goal

abbrev pub invariant-loop-part : goal.invariant-loop-part
invariant-loop-part l = AreFoundBelow l.game l.parts l.budget l.part-index l.found.items
