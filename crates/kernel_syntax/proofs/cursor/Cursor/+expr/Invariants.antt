-- Reading expressions ends, and the loop over the operators of a chain goes as its reader does.
use Rattle.std.proofs.Common.{◌≡◌, ◌-◌, ◌+◌, ◌*◌, length}
use Rattle.kernel_syntax.specs.Trees as tree
use Rattle.kernel_syntax.specs.Parsing as spec
use Rattle.kernel_syntax.specs.Reading.{tokens_of}
use Rattle.token_grammar.specs.Readers.{with_front}
use Rattle.kernel_syntax.proofs.cursor.Cursor.+expr.Given as goal

abbrev pub decreases-unary : goal.decreases-unary
decreases-unary l = 32 * l.levels

abbrev pub decreases-opened : goal.decreases-opened
decreases-opened l = 32 * l.levels + 27

abbrev pub decreases-ranked : goal.decreases-ranked
decreases-ranked l = 32 * l.levels + 4 * l.rank + 3

abbrev pub decreases-chain : goal.decreases-chain
decreases-chain l = 32 * l.levels + 4 * l.rank + 2

abbrev pub decreases-links : goal.decreases-links
decreases-links l = 32 * l.levels + 4 * l.rank + 1

abbrev pub decreases-link : goal.decreases-link
decreases-link l = 32 * l.levels + 4 * l.rank

abbrev pub invariant-links-links : goal.invariant-links-links
invariant-links-links l =
    let below = spec.ranked tree.link tree.chain (l.rank - 1) (spec.unary l.levels) in
    with_front l.found (spec.links tree.link l.rank below (tokens_of l.self)) ≡ spec.links tree.link l.rank below (tokens_of l.fn.self)

abbrev pub decreases-links-links : goal.decreases-links-links
decreases-links-links l = length (tokens_of l.self)

abbrev pub decreases-group : goal.decreases-group
decreases-group l = 32 * l.levels + 25

abbrev pub decreases-pair : goal.decreases-pair
decreases-pair l = 32 * l.levels + 26

abbrev pub decreases-triple : goal.decreases-triple
decreases-triple l = 32 * l.levels + 26

abbrev pub decreases-argument : goal.decreases-argument
decreases-argument l = 32 * l.levels + 24

abbrev pub decreases-last_argument : goal.decreases-last_argument
decreases-last_argument l = 32 * l.levels + 25
