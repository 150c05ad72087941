-- As many labels as the index says are copied.
use Rattle.std.proofs.Common.{◌≡◌, take}
use Rattle.slot_alloc.proofs.code.copied.Given as goal

abbrev pub invariant-loop-label : goal.invariant-loop-label
invariant-loop-label l = l.copies.items ≡ take l.label-index l.labels
