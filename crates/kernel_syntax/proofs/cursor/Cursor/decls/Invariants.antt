-- The loop over declarations, as its reader goes.
use Rattle.std.proofs.Common.{◌≡◌, length}
use Rattle.kernel_syntax.specs.Tokens as token
use Rattle.kernel_syntax.specs.Parsing as spec
use Rattle.kernel_syntax.specs.Reading.{tokens_of}
use Rattle.token_grammar.specs.Readers.{sees, with_front, many}
use Rattle.kernel_syntax.proofs.cursor.Cursor.decls.Given as goal

abbrev pub invariant-decls : goal.invariant-decls
invariant-decls l = with_front l.found (many (sees token.is_role) spec.declared (tokens_of l.self)) ≡ many (sees token.is_role) spec.declared (tokens_of l.fn.self)

abbrev pub decreases-decls : goal.decreases-decls
decreases-decls l = length (tokens_of l.self)
