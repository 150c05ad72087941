-- What the bytes spell, and what the check says of the covered table, is what is answered.
use Rattle.std.proofs.Common.{subst, refl}
use Rattle.cover_cert.specs.CoverTable.{IsCoverTableOf}
use Rattle.cover_cert.specs.Refusals.{IsCoverRefusal}
use Rattle.command_answers.specs.CoverCheckAnswers.{IsCoverFile, broken, no_table}
use Rattle.command_answers.proofs.CoverFiles.{certified, is_unit_game, not_certified}
use Rattle.command_answers.proofs.cover_check.table_answer.Goals as goal

pub returns-in-Err-Shape : goal.returns-in-Err-Shape
returns-in-Err-Shape c =
    let answer = c.refused.ensures in
    let none = c.in-Err-Shape.ensures.shape c.in-Err-Shape.field-0-is in
    not_certified c.refused.result c.args.game.now.slots c.args.game.now.graph c.args.bytes.now 1 0 answer.status answer.text answer.none
    (no_table (λ t file. none t file.spelled) refl refl) c.requires.room

pub returns-in-Ok-check_cover : goal.returns-in-Ok-check_cover
returns-in-Ok-check_cover c =
    let game = c.args.game.now in
    let answer = c.accepted.ensures in
    let table = c.in-Ok.table in
    let of_game = subst (λ g. IsCoverTableOf g table) (is_unit_game game c.requires.weights) c.in-Ok-check_cover.ensures.holds in
    certified c.accepted.result game.slots game.graph c.args.bytes.now table c.in-Ok-check_cover.bound answer.status answer.text answer.none c.in-Ok-check_cover.ensures.bound
    (record { file = record { short = c.requires.short; spelled = c.in-Ok.ensures.ok }; of_game = of_game }) c.requires.room

pub returns : goal.returns
returns c =
    let game = c.args.game.now in
    let answer = c.refused-in-Err.ensures in
    let table = c.in-Ok.table in
    let why = c.in-Err.field-0 in
    let file : IsCoverFile c.args.bytes.now table = record { short = c.requires.short; spelled = c.in-Ok.ensures.ok } in
    let refusal = subst (λ g. IsCoverRefusal g table why.reason why.row) (is_unit_game game c.requires.weights) c.in-Err.ensures.refused in
    not_certified c.refused-in-Err.result game.slots game.graph c.args.bytes.now c.number.result why.row answer.status answer.text answer.none
    (broken table why.reason file refusal c.number.ensures) c.requires.room
