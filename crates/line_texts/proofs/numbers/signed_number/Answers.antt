-- A number that is spelled so is the one that the parser reads, and it is printed so.
use Rattle.std.proofs.Common.{◌≡◌, ◌<◌, ◌^◌, sym, ap, ◌∙◌, subst, rules, w64, to_z, of_z}
use Rattle.std.proofs.lemmas.Fmt.{parse-signed_decimal, IsAscii-signed}
use Rattle.std.proofs.lemmas.Str.{IsUtf8-from_ascii}
use Rattle.std.specs.Str.{IsUtf8}
use Rattle.std.specs.Fmt.{signed_decimal}
use Rattle.std.specs.Int.Signed.{mag}
use Rattle.line_texts.proofs.numbers.signed_number.Goals as goal

pub returns-in_default : goal.returns-in_default
returns-in_default c = λ z fits e.
    let small : mag z < 2 ^ 63 = fits.sfits in
    absurd (c.in_default.ensures.cases.0 (subst IsUtf8 (sym e) (IsUtf8-from_ascii (signed_decimal z) (IsAscii-signed z small))))

pub returns-in_default-parse : goal.returns-in_default-parse
returns-in_default-parse c = λ z fits e.
    let read = parse-signed_decimal w64 z c.in-Ok.text.now c.parse.result fits fits.sfits (c.in-Ok.ensures.cases.0 ∙ e) c.parse.ensures.value.0 in
    absurd (cc (read, c.in_default-parse.is))

pub returns-else-eq : goal.returns-else-eq
returns-else-eq c = λ z fits e.
    let read = parse-signed_decimal w64 z c.in-Ok.text.now c.parse.result fits fits.sfits (c.in-Ok.ensures.cases.0 ∙ e) c.parse.ensures.value.0 in
    let same : c.in-Ok-parse.number ≡ z = cc (read, c.in-Ok-parse.is) in
    let kept : to_z w64 (of_z w64 c.in-Ok-parse.number) ≡ c.in-Ok-parse.number = search rules in
    let text : c.format.result.now ≡ c.args.word.now = c.format.ensures.text ∙ ap signed_decimal (kept ∙ same) ∙ sym e in
    let bytes : c.as_bytes.result.now ≡ c.args.word.now = c.as_bytes.ensures.value ∙ text in
    search rules
