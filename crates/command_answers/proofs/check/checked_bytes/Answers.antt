-- What the bytes spell, and what the check says of the table, is what they prove.
use Rattle.std.proofs.Common.{refl}
use Rattle.command_answers.specs.CheckAnswers.{IsTableFile, broken, no_table}
use Rattle.command_answers.proofs.check.checked_bytes.Goals as goal

pub returns-in-Err-Shape : goal.returns-in-Err-Shape
returns-in-Err-Shape c =
    let none = c.in-Err-Shape.ensures.none c.in-Err-Shape.field-0-0 c.in-Err-Shape.field-0-is in
    no_table (λ t file. none t file.spelled) refl refl

pub returns-in-Ok-check : goal.returns-in-Ok-check
returns-in-Ok-check c = record {
  certificate = c.in-Ok.table;
  certifies = record { file = record { short = c.requires; spelled = c.in-Ok.ensures.ok }; of_game = c.in-Ok-check.ensures.holds };
  same = c.in-Ok-check.ensures.bound;
}

pub returns : goal.returns
returns c =
    let why = c.in-Err.field-0 in
    let file : IsTableFile c.args.bytes.now c.in-Ok.table = record { short = c.requires; spelled = c.in-Ok.ensures.ok } in
    broken c.in-Ok.table why.reason file c.in-Err.ensures.refused c.number.ensures
