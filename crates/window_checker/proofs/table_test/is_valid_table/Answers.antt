use Rattle.std.proofs.Common.{false, refl}
use Rattle.cert_checker.proofs.Checked.{fall_refutes}
use Rattle.window_checker.proofs.RowTests.{apart}
use Rattle.window_checker.proofs.table_test.is_valid_table.Goals as goal

pub returns-in-Some : goal.returns-in-Some
returns-in-Some c = (λ h. absurd (apart false h refl), λ valid. absurd (fall_refutes c.args.table.now.rows.now c.in-Some._row c.in-Some.ensures valid.rise))

pub returns-in-Some-first_bad_steps : goal.returns-in-Some-first_bad_steps
returns-in-Some-first_bad_steps c =
    let bad = c.in-Some-first_bad_steps.ensures in
    (λ h. absurd (apart false h refl), λ valid. absurd (bad.lacks (valid.steps c.in-Some-first_bad_steps._row bad.row bad.at)))
