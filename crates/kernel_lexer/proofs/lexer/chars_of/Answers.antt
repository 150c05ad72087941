-- The characters that were collected are those of the text.
use Rattle.std.proofs.Common.{rules}
use Rattle.std.proofs.lemmas.Str.{chars_from_encodes}
use Rattle.kernel_lexer.proofs.lexer.chars_of.Goals as goal

pub returns-clause-chars : goal.returns-clause-chars
returns-clause-chars c = search (rules, chars_from_encodes)
