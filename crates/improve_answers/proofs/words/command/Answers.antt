-- Words of another number spell no command.
use Rattle.std.proofs.Common.{◌≡◌, ◌≤◌, ◌<◌, ◌⊎◌, ℕ, List, [], ◌∷◌, None, length, map, string_bytes, refl, arith}
use Rattle.std.proofs.lemmas.List.{length-map}
use Rattle.improve_answers.specs.ImproveWords.{command}
use Rattle.improve_answers.proofs.words.command.Goals as goal

few : (words : List (List ℕ)) → length words < 3 → None ≡ command words
few [] less = refl
few (a ∷ []) less = refl
few (a ∷ b ∷ []) less = refl
few (a ∷ b ∷ c ∷ more) less = absurd (omega arith)

many : (words : List (List ℕ)) → 7 ≤ length words → None ≡ command words
many [] more = absurd (omega arith)
many (a ∷ []) more = absurd (omega arith)
many (a ∷ b ∷ []) more = absurd (omega arith)
many (a ∷ b ∷ c ∷ []) more = absurd (omega arith)
many (a ∷ b ∷ c ∷ d ∷ []) more = absurd (omega arith)
many (a ∷ b ∷ c ∷ d ∷ e ∷ []) more = absurd (omega arith)
many (a ∷ b ∷ c ∷ d ∷ e ∷ f ∷ []) more = absurd (omega arith)
many (a ∷ b ∷ c ∷ d ∷ e ∷ f ∷ g ∷ rest) more = refl

pub returns-in_default-clause-value : goal.returns-in_default-clause-value
returns-in_default-clause-value c =
    let same = length-map c.args.words.now string_bytes in
    few (map string_bytes c.args.words.now) (omega (arith, same, c.in_default.len_below))

pub returns-in_default-2-clause-value : goal.returns-in_default-2-clause-value
returns-in_default-2-clause-value c =
    let same = length-map c.args.words.now string_bytes in
    many (map string_bytes c.args.words.now) (omega (arith, same, c.in_default.len_at_least))
