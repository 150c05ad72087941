-- Words of another number spell no command.
use Rattle.std.proofs.Common.{◌≡◌, ◌≤◌, ℕ, List, [], ◌∷◌, None, length, map, string_bytes, refl, arith}
use Rattle.std.proofs.lemmas.List.{length-map}
use Rattle.command_words.specs.Words.{command}
use Rattle.command_words.proofs.read.command.Goals as goal

seven : (words : List (List ℕ)) → 7 ≤ length words → None ≡ command words
seven [] few = absurd (omega arith)
seven (a ∷ []) few = absurd (omega arith)
seven (a ∷ b ∷ []) few = absurd (omega arith)
seven (a ∷ b ∷ c ∷ []) few = absurd (omega arith)
seven (a ∷ b ∷ c ∷ d ∷ []) few = absurd (omega arith)
seven (a ∷ b ∷ c ∷ d ∷ e ∷ []) few = absurd (omega arith)
seven (a ∷ b ∷ c ∷ d ∷ e ∷ f ∷ []) few = absurd (omega arith)
seven (a ∷ b ∷ c ∷ d ∷ e ∷ f ∷ g ∷ more) few = refl

pub returns-in_default-2-clause-value : goal.returns-in_default-2-clause-value
returns-in_default-2-clause-value c =
    let same = length-map c.args.words.now string_bytes in
    seven (map string_bytes c.args.words.now) (omega (arith, same, c.in_default.len_at_least))
