-- Reading indices ends, and the loop over the operators of a chain goes as its reader does.
use Rattle.std.proofs.Common.{◌≡◌, ◌-◌, ◌+◌, ◌*◌, length}
use Rattle.kernel_syntax.specs.Trees as tree
use Rattle.kernel_syntax.specs.Parsing as spec
use Rattle.kernel_syntax.specs.Reading.{tokens_of}
use Rattle.token_grammar.specs.Readers.{with_front}
use Rattle.kernel_syntax.proofs.cursor.Cursor.+index.Given as goal

abbrev pub decreases-index_unary : goal.decreases-index_unary
decreases-index_unary l = 32 * l.levels

abbrev pub decreases-index_opened : goal.decreases-index_opened
decreases-index_opened l = 32 * l.levels + 26

abbrev pub decreases-index_ranked : goal.decreases-index_ranked
decreases-index_ranked l = 32 * l.levels + 4 * l.rank + 3

abbrev pub decreases-index_chain : goal.decreases-index_chain
decreases-index_chain l = 32 * l.levels + 4 * l.rank + 2

abbrev pub decreases-index_links : goal.decreases-index_links
decreases-index_links l = 32 * l.levels + 4 * l.rank + 1

abbrev pub decreases-index_link : goal.decreases-index_link
decreases-index_link l = 32 * l.levels + 4 * l.rank

abbrev pub invariant-index_links-links : goal.invariant-index_links-links
invariant-index_links-links l =
    let below = spec.ranked tree.index_link tree.index_chain (l.rank - 1) (spec.index_unary l.levels) in
    with_front l.found (spec.links tree.index_link l.rank below (tokens_of l.self)) ≡ spec.links tree.index_link l.rank below (tokens_of l.fn.self)

abbrev pub decreases-index_links-links : goal.decreases-index_links-links
decreases-index_links-links l = length (tokens_of l.self)
