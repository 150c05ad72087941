use Rattle.std.proofs.Common.{rules}
use Rattle.std.proofs.lemmas.Fn.{always_returns_same}
use Rattle.potential_cert.specs.Order.{precedes}
use Rattle.branch_bound.proofs.RowLaws.{compared}
use Rattle.cover_cert.proofs.Numbered.{by_position}
use Rattle.cover_cert.proofs.numbering.sorted_rows.Goals as goal

pub returns-clause-sorted : goal.returns-clause-sorted
returns-clause-sorted c =
    c.in_ok-sort_by.ensures.sorted (λ r q. precedes r.position q.position) by_position
    (always_returns_same _ _ _ (λ a r f k. compared r a.0.now.position a.1.0.now.position _ f (search rules)))
