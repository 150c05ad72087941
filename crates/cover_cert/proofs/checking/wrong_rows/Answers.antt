-- The rows and the bound that are tested are those of the table.
use Rattle.std.proofs.Common.{sym, ap, ◌∙◌, subst, refl, arith}
use Rattle.comp_graph.specs.Games.{game_of}
use Rattle.normal_steps.specs.Sound.{IsSound}
use Rattle.potential_cert.specs.Table.{IsRising, FinishHolds}
use Rattle.potential_cert.specs.Order.{precedes}
use Rattle.cert_checker.specs.declared.refusal.Reason.TheVariants as reasons
use Rattle.cert_checker.specs.Refusals.{EachRow, IsFirstWithout}
use Rattle.cover_cert.specs.CoverTable.{NamesHold, StartHolds, StepsHold, plain, plain_rows}
use Rattle.cover_cert.proofs.Checked.{before_position, before_start, before_cover, before_step, before_finish, passes_all, refused_as}
use Rattle.cover_cert.proofs.checking.wrong_rows.Goals as goal

pub returns-in-Some-first_unsound-clause-some : goal.returns-in-Some-first_unsound-clause-some
returns-in-Some-first_unsound-clause-some c =
    let g = game_of c.args.game.now in
    let t = c.args.table.now in
    let rows_are = c.deref-rows.ensures.value ∙ ap (λ t. t.rows) c.table.view_is in
    let bound_is = ap (λ t. t.bound) c.table.view_is in
    let order = before_position g t c.requires.numbers (subst (λ rows. IsRising precedes (plain_rows rows)) rows_are c.in_default.ensures) in
    refused_as g t c.new-in-Some-first_unsound.result reasons.Position c.in-Some-first_unsound.row c.new-in-Some-first_unsound.ensures.reason c.new-in-Some-first_unsound.ensures.row (record { gives = subst (λ rows. IsFirstWithout (λ r. IsSound g r.position) rows c.in-Some-first_unsound.row) rows_are c.in-Some-first_unsound.ensures; first = order })

pub returns-then-not-start_holds-clause-some : goal.returns-then-not-start_holds-clause-some
returns-then-not-start_holds-clause-some c =
    let g = game_of c.args.game.now in
    let t = c.args.table.now in
    let rows_are = c.deref-rows.ensures.value ∙ ap (λ t. t.rows) c.table.view_is in
    let bound_is = ap (λ t. t.bound) c.table.view_is in
    let order = before_position g t c.requires.numbers (subst (λ rows. IsRising precedes (plain_rows rows)) rows_are c.in_default.ensures) in
    let position = before_start g t order (subst (EachRow (λ r. IsSound g r.position)) rows_are c.in_default-first_unsound.ensures) in
    refused_as g t c.new-then-not-start_holds.result reasons.Start 0 c.new-then-not-start_holds.ensures.reason c.new-then-not-start_holds.ensures.row (record {
      gives = (
        refl,
        λ holds.
            let tested = c.start_holds.ensures.1 (subst (λ rows. StartHolds g rows c.table.inside.bound) (sym rows_are) (subst (StartHolds g t.rows) (sym bound_is) holds)) in
            let untrue = c.if-not-start_holds.true in
            grind arith,
      );
      first = position;
    })

pub returns-in-Some-first_bad_names-clause-some : goal.returns-in-Some-first_bad_names-clause-some
returns-in-Some-first_bad_names-clause-some c =
    let g = game_of c.args.game.now in
    let t = c.args.table.now in
    let rows_are = c.deref-rows.ensures.value ∙ ap (λ t. t.rows) c.table.view_is in
    let bound_is = ap (λ t. t.bound) c.table.view_is in
    let order = before_position g t c.requires.numbers (subst (λ rows. IsRising precedes (plain_rows rows)) rows_are c.in_default.ensures) in
    let position = before_start g t order (subst (EachRow (λ r. IsSound g r.position)) rows_are c.in_default-first_unsound.ensures) in
    let start = before_cover g t position (subst (StartHolds g t.rows) bound_is (subst (λ rows. StartHolds g rows c.table.inside.bound) rows_are (c.start_holds.ensures.0 c.if-not-start_holds.false))) in
    refused_as g t c.new-in-Some-first_bad_names.result reasons.Cover c.in-Some-first_bad_names.row c.new-in-Some-first_bad_names.ensures.reason c.new-in-Some-first_bad_names.ensures.row (record { gives = subst (λ rows. IsFirstWithout (NamesHold g rows) rows c.in-Some-first_bad_names.row) rows_are c.in-Some-first_bad_names.ensures; first = start })

pub returns-in-Some-first_bad_steps-clause-some : goal.returns-in-Some-first_bad_steps-clause-some
returns-in-Some-first_bad_steps-clause-some c =
    let g = game_of c.args.game.now in
    let t = c.args.table.now in
    let rows_are = c.deref-rows.ensures.value ∙ ap (λ t. t.rows) c.table.view_is in
    let bound_is = ap (λ t. t.bound) c.table.view_is in
    let order = before_position g t c.requires.numbers (subst (λ rows. IsRising precedes (plain_rows rows)) rows_are c.in_default.ensures) in
    let position = before_start g t order (subst (EachRow (λ r. IsSound g r.position)) rows_are c.in_default-first_unsound.ensures) in
    let start = before_cover g t position (subst (StartHolds g t.rows) bound_is (subst (λ rows. StartHolds g rows c.table.inside.bound) rows_are (c.start_holds.ensures.0 c.if-not-start_holds.false))) in
    let cover = before_step g t start (subst (λ rows. EachRow (NamesHold g rows) rows) rows_are c.in_default-first_bad_names.ensures) in
    refused_as g t c.new-in-Some-first_bad_steps.result reasons.Step c.in-Some-first_bad_steps.row c.new-in-Some-first_bad_steps.ensures.reason c.new-in-Some-first_bad_steps.ensures.row (record { gives = subst (λ b. IsFirstWithout (StepsHold g t.rows b) t.rows c.in-Some-first_bad_steps.row) bound_is (subst (λ rows. IsFirstWithout (StepsHold g rows c.table.inside.bound) rows c.in-Some-first_bad_steps.row) rows_are c.in-Some-first_bad_steps.ensures); first = cover })

pub returns-in-Some-first_bad_finish-clause-some : goal.returns-in-Some-first_bad_finish-clause-some
returns-in-Some-first_bad_finish-clause-some c =
    let g = game_of c.args.game.now in
    let t = c.args.table.now in
    let rows_are = c.deref-rows.ensures.value ∙ ap (λ t. t.rows) c.table.view_is in
    let bound_is = ap (λ t. t.bound) c.table.view_is in
    let order = before_position g t c.requires.numbers (subst (λ rows. IsRising precedes (plain_rows rows)) rows_are c.in_default.ensures) in
    let position = before_start g t order (subst (EachRow (λ r. IsSound g r.position)) rows_are c.in_default-first_unsound.ensures) in
    let start = before_cover g t position (subst (StartHolds g t.rows) bound_is (subst (λ rows. StartHolds g rows c.table.inside.bound) rows_are (c.start_holds.ensures.0 c.if-not-start_holds.false))) in
    let cover = before_step g t start (subst (λ rows. EachRow (NamesHold g rows) rows) rows_are c.in_default-first_bad_names.ensures) in
    let step = before_finish g t cover (subst (λ b. EachRow (StepsHold g t.rows b) t.rows) bound_is (subst (λ rows. EachRow (StepsHold g rows c.table.inside.bound) rows) rows_are c.in_default-first_bad_steps.ensures)) in
    refused_as g t c.new-in-Some-first_bad_finish.result reasons.Finish c.in-Some-first_bad_finish.row c.new-in-Some-first_bad_finish.ensures.reason c.new-in-Some-first_bad_finish.ensures.row (record { gives = subst (λ b. IsFirstWithout (λ r. FinishHolds g b (plain r)) t.rows c.in-Some-first_bad_finish.row) bound_is (subst (λ rows. IsFirstWithout (λ r. FinishHolds g c.table.inside.bound (plain r)) rows c.in-Some-first_bad_finish.row) rows_are c.in-Some-first_bad_finish.ensures); first = step })

pub returns-clause-none : goal.returns-clause-none
returns-clause-none c =
    let g = game_of c.args.game.now in
    let t = c.args.table.now in
    let rows_are = c.deref-rows.ensures.value ∙ ap (λ t. t.rows) c.table.view_is in
    let bound_is = ap (λ t. t.bound) c.table.view_is in
    let order = before_position g t c.requires.numbers (subst (λ rows. IsRising precedes (plain_rows rows)) rows_are c.in_default.ensures) in
    let position = before_start g t order (subst (EachRow (λ r. IsSound g r.position)) rows_are c.in_default-first_unsound.ensures) in
    let start = before_cover g t position (subst (StartHolds g t.rows) bound_is (subst (λ rows. StartHolds g rows c.table.inside.bound) rows_are (c.start_holds.ensures.0 c.if-not-start_holds.false))) in
    let cover = before_step g t start (subst (λ rows. EachRow (NamesHold g rows) rows) rows_are c.in_default-first_bad_names.ensures) in
    let step = before_finish g t cover (subst (λ b. EachRow (StepsHold g t.rows b) t.rows) bound_is (subst (λ rows. EachRow (StepsHold g rows c.table.inside.bound) rows) rows_are c.in_default-first_bad_steps.ensures)) in
    passes_all g t step (subst (λ b. EachRow (λ r. FinishHolds g b (plain r)) t.rows) bound_is (subst (EachRow (λ r. FinishHolds g c.table.inside.bound (plain r))) rows_are c.in_default-first_bad_finish.ensures))
