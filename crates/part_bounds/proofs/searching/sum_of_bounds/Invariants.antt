-- The bounds of the first parts are added.
use Rattle.std.proofs.Common.{◌≡◌, take}
use Rattle.part_bounds.specs.Bounds.{sum_of_bounds}
use Rattle.part_bounds.proofs.searching.sum_of_bounds.Given as goal

abbrev pub invariant-loop-one : goal.invariant-loop-one
invariant-loop-one l = l.sum ≡ sum_of_bounds (take l.one-index l.found)
