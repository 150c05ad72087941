-- What is left to skip stays the same, with its place.
use Rattle.std.proofs.Common.{◌≡◌, ◌+◌, length, false, ◌≤◌}
use Rattle.kernel_lexer.specs.Spelling.{bytes}
use Rattle.kernel_lexer.specs.Lexing as lexing
use Rattle.kernel_lexer.proofs.scan.skip.Given as goal

abbrev pub invariant-loop-rest : goal.invariant-loop-rest
invariant-loop-rest l = record {
  left : lexing.skip l.in_comment l.rest ≡ lexing.skip false l.fn.rest;
  place : l.at + bytes l.rest ≡ l.fn.at + bytes l.fn.rest;
  shorter : length l.rest ≤ length l.fn.rest;
}

abbrev pub decreases-loop-rest : goal.decreases-loop-rest
decreases-loop-rest l = length l.rest
