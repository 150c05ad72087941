-- The operands so far are constants.
use Rattle.std.proofs.Common.{◌≡◌, drop}
use Rattle.three_address.specs.Lowering as spec
use Rattle.three_address.proofs.vertices.are_constants.Given as goal

abbrev pub invariant-loop-arg : goal.invariant-loop-arg
invariant-loop-arg l = spec.are_constants (drop l.arg-index l.args) ≡ spec.are_constants l.args
