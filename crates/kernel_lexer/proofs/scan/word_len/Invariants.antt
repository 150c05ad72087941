-- The characters counted so far and the run of those that are left make the word.
use Rattle.std.proofs.Common.{◌≡◌, ◌+◌, ◌-◌, ◌≤◌, length, drop}
use Rattle.kernel_lexer.specs.Spelling as spelling
use Rattle.kernel_lexer.specs.Cutting as cutting
use Rattle.kernel_lexer.proofs.scan.word_len.Given as goal

abbrev pub invariant-loop-len : goal.invariant-loop-len
invariant-loop-len l = (l.len ≤ length l.rest) × (l.len + length (cutting.run spelling.continues (drop l.len l.rest)) ≡ 1 + length (cutting.run spelling.continues (drop 1 l.rest)))

abbrev pub decreases-loop-len : goal.decreases-loop-len
decreases-loop-len l = length l.rest - l.len
