-- The tokens found so far lead to what is left, and the place is that of what is left.
use Rattle.std.proofs.Common.{◌≡◌, ◌+◌, ◌≤◌, length}
use Rattle.kernel_lexer.specs.Spelling.{bytes}
use Rattle.kernel_lexer.proofs.Found.{Leads}
use Rattle.kernel_lexer.proofs.lexer.tokens_of.Given as goal

abbrev pub invariant-tokens : goal.invariant-tokens
invariant-tokens l = record {
  shorter : length l.rest ≤ length l.text;
  place : l.at + bytes l.rest ≡ bytes l.text;
  leads : Leads l.text l.found.items l.rest;
}

abbrev pub decreases-tokens : goal.decreases-tokens
decreases-tokens l = length l.rest
