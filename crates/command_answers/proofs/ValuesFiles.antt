-- Which files hold values of a number.
use Rattle.std.proofs.Common.{◌≡◌, ◌⊎◌, ℕ, ℤ, ◌<◌, ◌≤◌, List, [], ◌∷◌, ◌++◌, length, Option, Some, None, inl, inr, refl, ap, ◌∙◌, arith}
use Rattle.std.proofs.lemmas.Bool.{cases_eq, cases_lt}
use Rattle.std.proofs.lemmas.List.{length-append}
use Rattle.std.specs.List.{slice_split}
use Rattle.values_text.specs.Numbers.{number_of}
use Rattle.values_text.specs.Values.{Spells, is_space}
use Rattle.values_text.proofs.Parts.{numbers_of, sound, complete, one_list}
use Rattle.command_answers.specs.ValuesFiles.{HoldsValues, HoldsNone, HoldsOrNot}

-- a word that spells a number is not empty
some_word : (word : List ℕ) (value : ℤ) → number_of word ≡ Some value → 0 < length word
some_word [] value h = absurd (cc)
some_word (c ∷ cs) value h = omega arith

-- a text has at least as many bytes as it spells numbers
pub few_values : (text : List ℕ) (values : List ℤ) → Spells text values → length values ≤ length text
few_values text [] h = omega arith
few_values text (value ∷ values) (rest, begins, more) =
    let word = some_word begins.word value begins.number in
    let front = ap length begins.split ∙ length-append begins.gap (begins.word ++ rest) in
    let back = length-append begins.word rest in
    let behind = few_values rest values more in
    omega (arith, word, front, back, behind)

-- a file that spells no list holds no values
pub no_list : (count : ℕ) (bytes : List ℕ) → ((values : List ℤ) → Spells bytes values → ⊥) → HoldsNone count bytes
no_list count bytes none values file = none values file.spelled

-- a file that is too long holds no values
pub no_room : (count : ℕ) (bytes : List ℕ) → 1000000 < length bytes → HoldsNone count bytes
no_room count bytes long values file = let short = file.short in omega (arith, long, short)

by_count : (count : ℕ) (bytes : List ℕ) (values : List ℤ) → length bytes ≤ 1000000 → Spells bytes values → ((found : List ℤ) × HoldsValues count bytes found) ⊎ HoldsNone count bytes
by_count count bytes values short spelled = elim (cases_eq (length values) count) [
  | inl same ↦ inl (values, record { short = short; spelled = spelled; counted = same })
  | inr differ ↦ inr (λ others file. differ (ap length (one_list bytes values others spelled file.spelled) ∙ file.counted))
]

by_numbers : (count : ℕ) (bytes : List ℕ) (found : Option (List ℤ)) → length bytes ≤ 1000000 → numbers_of (slice_split is_space bytes) ≡ found
    → ((values : List ℤ) × HoldsValues count bytes values) ⊎ HoldsNone count bytes
by_numbers count bytes None short e = inr (λ values file. let other = complete values bytes file.spelled in absurd (cc))
by_numbers count bytes (Some values) short e = by_count count bytes values short (sound (slice_split is_space bytes) bytes values refl e)

pub holds_or_not : HoldsOrNot
holds_or_not count bytes = elim (cases_lt 1000000 (length bytes)) [
  | inl long ↦ inr (no_room count bytes long)
  | inr short ↦ by_numbers count bytes (numbers_of (slice_split is_space bytes)) (omega (arith, short)) refl
]
