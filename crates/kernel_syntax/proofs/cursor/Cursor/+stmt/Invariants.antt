-- The loop over statements, as its reader goes.
use Rattle.std.proofs.Common.{◌≡◌, ◌+◌, ◌*◌, length}
use Rattle.kernel_syntax.specs.Tokens as token
use Rattle.kernel_syntax.specs.Parsing as spec
use Rattle.kernel_syntax.specs.Reading.{tokens_of}
use Rattle.token_grammar.specs.Readers.{sees, with_front, many}
use Rattle.kernel_syntax.proofs.cursor.Cursor.+stmt.Given as goal

abbrev pub decreases-statement : goal.decreases-statement
decreases-statement l = 8 * l.levels

abbrev pub decreases-statements : goal.decreases-statements
decreases-statements l = 8 * l.levels + 1

abbrev pub decreases-block : goal.decreases-block
decreases-block l = 8 * l.levels + 2

abbrev pub decreases-last_block : goal.decreases-last_block
decreases-last_block l = 8 * l.levels + 3

abbrev pub decreases-otherwise : goal.decreases-otherwise
decreases-otherwise l = 8 * l.levels + 4

abbrev pub decreases-looped : goal.decreases-looped
decreases-looped l = 8 * l.levels + 5

abbrev pub decreases-branched : goal.decreases-branched
decreases-branched l = 8 * l.levels + 5

abbrev pub decreases-nested : goal.decreases-nested
decreases-nested l = 8 * l.levels + 6

abbrev pub invariant-statements-body : goal.invariant-statements-body
invariant-statements-body l = with_front l.found (many (sees token.starts) (spec.statement l.levels) (tokens_of l.self)) ≡ many (sees token.starts) (spec.statement l.levels) (tokens_of l.fn.self)

abbrev pub decreases-statements-body : goal.decreases-statements-body
decreases-statements-body l = length (tokens_of l.self)
