use Rattle.std.proofs.Common.{◌≡◌, refl, arith}
use Rattle.potential_cert.proofs.Places.{index_at}
use Rattle.cover_cert.proofs.RowTests.{none_more, name_here, no_name}
use Rattle.cover_cert.proofs.row_tests.is_named.Goals as goal

pub returns-then-name-place : goal.returns-then-name-place
returns-then-name-place c =
    let at = index_at _ (record { step = 0; row = 0 }) c.loop-name.name-index c.args.names.now c.loop-name-test.true refl in
    (λ _. name_here c.args.names.now c.loop-name.name-index c.args.place _ at c.if-name-place.true, λ _. refl)

pub loop-name-preserved : goal.loop-name-preserved
loop-name-preserved c =
    let at = index_at _ (record { step = 0; row = 0 }) c.loop-name.name-index c.args.names.now c.loop-name-test.true refl in
    none_more (λ n. n.step ≡ c.args.place) c.args.names.now c.loop-name.name-index _ at c.if-name-place.false c.loop-name.invariant

pub returns : goal.returns
returns c = (λ h. absurd (grind arith), λ named. absurd (no_name c.args.names.now c.loop-name.name-index c.args.place c.loop-name-test.false c.loop-name.invariant named))
