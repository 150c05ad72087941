-- Skipped declarations have no element that is left, and each turn skips one.
use Rattle.std.proofs.Common.{◌≡◌, ◌-◌, length}
use Rattle.three_address.specs.ElementsLeft.{rest}
use Rattle.three_address.proofs.elements.Elements.next.Given as goal

abbrev pub invariant-loop-name : goal.invariant-loop-name
invariant-loop-name l = rest l.self ≡ rest l.fn.self

abbrev pub decreases-loop-name : goal.decreases-loop-name
decreases-loop-name l = length l.self.decls.now.entries - l.self.decl
