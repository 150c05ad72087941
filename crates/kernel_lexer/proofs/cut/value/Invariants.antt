-- The value of the digits so far, or the greatest number of 64 bits.
use Rattle.std.proofs.Common.{◌≡◌, ◌-◌, ◌^◌, min, take}
use Rattle.kernel_lexer.specs.Spelling as spelling
use Rattle.kernel_lexer.proofs.cut.value.Given as goal

abbrev pub invariant-loop-c : goal.invariant-loop-c
invariant-loop-c l = l.value ≡ min (spelling.value (take l.c-index l.digits)) (2 ^ 64 - 1)
