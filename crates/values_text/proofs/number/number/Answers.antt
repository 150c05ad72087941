-- The word is digits behind its sign, so it is text, and the parser reads the number that it spells.
use Rattle.std.proofs.Common.{◌≡◌, true, sym, ◌∙◌, subst}
use Rattle.std.specs.Int.{w64}
use Rattle.std.specs.Str.Parse.{ParsesSigned}
use Rattle.values_text.specs.Numbers.{are_digits}
use Rattle.values_text.proofs.NumberLaws.{digits_utf8, number_parsed}
use Rattle.values_text.proofs.number.number.Goals as goal

pub returns-in_default : goal.returns-in_default
returns-in_default c =
    let digits = subst (λ z. are_digits z ≡ true) c.without_sign.ensures (sym c.are_digits.ensures ∙ c.if-not-are_digits.false) in
    absurd (c.in_default.ensures.cases.0 (digits_utf8 c.args.word.now digits))

pub returns : goal.returns
returns c =
    let digits = subst (λ z. are_digits z ≡ true) c.without_sign.ensures (sym c.are_digits.ensures ∙ c.if-not-are_digits.false) in
    let parses = subst (λ z. ParsesSigned w64 10 z c.parse.result) c.in-Ok.ensures.cases.0 c.parse.ensures.value.0 in
    c.ok.ensures.value ∙ number_parsed c.args.word.now c.parse.result parses digits
