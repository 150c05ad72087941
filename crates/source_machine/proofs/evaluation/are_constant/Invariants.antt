-- All operands so far are constants.
use Rattle.std.proofs.Common.{◌≡◌, drop}
use Rattle.source_machine.specs.Numbers as spec
use Rattle.source_machine.proofs.evaluation.are_constant.Given as goal

abbrev pub invariant-each_argument : goal.invariant-each_argument
invariant-each_argument l = spec.all_constant (drop l.arg-index l.args) ≡ spec.all_constant l.args
