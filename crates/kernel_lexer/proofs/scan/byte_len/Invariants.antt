-- The bytes of the characters so far.
use Rattle.std.proofs.Common.{◌≡◌, ◌*◌, ◌≤◌, take}
use Rattle.kernel_lexer.specs.Spelling as spelling
use Rattle.kernel_lexer.proofs.scan.byte_len.Given as goal

abbrev pub invariant-loop-c : goal.invariant-loop-c
invariant-loop-c l = (l.len ≡ spelling.bytes (take l.c-index l.word)) × (l.len ≤ 4 * l.c-index)
