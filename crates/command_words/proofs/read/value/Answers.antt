-- The word is digits alone, so that the parser reads what they spell.
use Rattle.std.proofs.Common.{◌≡◌, ◌<◌, ◌^◌, true, rules, ℕ, Result, Ok, Err}
use Rattle.std.specs.Option.{SomeIff}
use Rattle.std.specs.Result.{OkIff, result_ok}
use Rattle.std.specs.declared.option.Option.{Option}
use Rattle.std.proofs.lemmas.Str.Parse.{IsNumeralModel, numerals_by_fold, parse_digits}
use Rattle.command_words.specs.Words.{are_digits, digits_after}
use Rattle.command_words.proofs.read.value.Goals as goal

own : IsNumeralModel (λ ds. are_digits ds ≡ true) (digits_after 0)
own = numerals_by_fold _ (search rules) digits_after (search rules)

from_parse : {E : Type 0} (r : Result ℕ E) (o : Option ℕ) (size value : ℕ) → OkIff r ((0 < size) × (value < 2 ^ 32)) value → o ≡ result_ok r → 0 < size → SomeIff o (value < 2 ^ 32) value
from_parse (Ok x) o size value parsed o_is some = rw o_is (parsed.0.1, parsed.1)
from_parse (Err e) o size value parsed o_is some = rw o_is (λ fits. parsed (some, fits))

pub returns : goal.returns
returns c = from_parse _ _ _ _ (parse_digits own 32 c.args.word.now _ c.parse.ensures.value.0 c.requires.digits) c.ok.ensures.value c.requires.some
