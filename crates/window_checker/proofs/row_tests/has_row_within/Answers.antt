use Rattle.std.proofs.Common.{arith}
use Rattle.potential_cert.specs.Table.{HasRowWithin}
use Rattle.potential_cert.proofs.RowSearch.{within_cost}
use Rattle.cert_checker.proofs.RowTests.{is_within_true}
use Rattle.window_checker.proofs.row_tests.has_row_within.Goals as goal

pub returns-in-Some : goal.returns-in-Some
returns-in-Some c =
    is_within_true c.in-Some.cost c.args.most (HasRowWithin c.args.rows.now c.args.position.now c.args.most)
    (within_cost c.args.rows.now c.requires.rise c.args.position.now c.in-Some.cost c.args.most c.in-Some.ensures.some)

pub returns-in-None : goal.returns-in-None
returns-in-None c = (λ h. absurd (grind arith), λ has. absurd (c.in-None.ensures.none (has.0, has.1, has.2)))
