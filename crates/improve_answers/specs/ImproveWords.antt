-- What the words of `improve` spell (this project's convention).
use Rattle.std.specs.Prelude.{ℕ, ◌≡◌, ◌≤◌, Bool, if◌then◌else◌, List, [], ◌∷◌, map, codes, None, Some, String, string_bytes}
use Rattle.std.specs.declared.alloc.Global.{Global}
use Rattle.std.specs.declared.option.Option.{Option}
use Rattle.std.specs.Str.{bytes_eq}
use Rattle.comp_graph.specs.declared.costs.Weights.{Weights}
use Rattle.comp_graph.specs.Games.{AreWeights, unit_weights}
use Rattle.command_words.specs.declared.commands.Checking.{Checking}
use Rattle.command_words.specs.Words.{number, slots_with, weights_by, word_at}
use Rattle.improve_answers.specs.declared.commands.ImproveCommand.{ImproveCommand}
use Rattle.improve_answers.specs.declared.commands.ImproveCommand.TheVariants.{Improve, Confirm}

-- the effort of words that name none
abbrev pub default_effort : ℕ
default_effort = 20

-- the effort that a word spells
abbrev pub effort_by : List ℕ → Option ℕ
effort_by word = number 0 200 word

-- `improve`, if there are slots, an effort and weights
abbrev pub improve_command : Option ℕ → Option ℕ → Option Weights → Option ImproveCommand
improve_command (Some slots) (Some effort) (Some weights) = Some (Improve (record { slots = slots; effort = effort; weights = weights }))
improve_command _ _ _ = None

-- `confirm`, if there are slots and weights
abbrev pub confirm_command : Option ℕ → Option Weights → Option ImproveCommand
confirm_command (Some slots) (Some weights) = Some (Confirm (record { slots = slots; weights = weights }))
confirm_command _ _ = None

-- the word is `improve`, and the word is `confirm`
abbrev pub names_improve : List ℕ → Bool
names_improve word = bytes_eq word (codes "improve")

abbrev pub names_confirm : List ℕ → Bool
names_confirm word = bytes_eq word (codes "confirm")

-- What the words spell: `improve S FILE`, `improve S FILE EFFORT`, `improve S FILE EFFORT A B`, `confirm S FILE` and `confirm S FILE A B`, with S from
-- 1 to 64, EFFORT from 0 to 200, A and B from 1 to 16, and FILE any word that is not empty. Weights that are not named are 1 and 1.
abbrev pub command : List (List ℕ) → Option ImproveCommand
command (name ∷ slots ∷ file ∷ []) =
    if names_improve name then improve_command (slots_with (number 1 64 slots) file) (Some default_effort) (Some unit_weights)
    else (if names_confirm name then confirm_command (slots_with (number 1 64 slots) file) (Some unit_weights) else None)
command (name ∷ slots ∷ file ∷ effort ∷ []) =
    if names_improve name then improve_command (slots_with (number 1 64 slots) file) (effort_by effort) (Some unit_weights) else None
command (name ∷ slots ∷ file ∷ load ∷ store ∷ []) =
    if names_confirm name then confirm_command (slots_with (number 1 64 slots) file) (weights_by load store) else None
command (name ∷ slots ∷ file ∷ effort ∷ load ∷ store ∷ []) =
    if names_improve name then improve_command (slots_with (number 1 64 slots) file) (effort_by effort) (weights_by load store) else None
command _ = None

-- the command that the program's words spell
abbrev pub asked_by : List (String Global) → Option ImproveCommand
asked_by words = command (map string_bytes words)

-- the name of the file by the program's words: the third, or the empty text
abbrev pub file_named_by : List (String Global) → List ℕ
file_named_by words = word_at 2 (map string_bytes words)

-- the numbers of a command are in range
abbrev pub IsInLimits : ImproveCommand → Type 0
IsInLimits (Improve asked) = (1 ≤ asked.slots) × (asked.slots ≤ 64) × (asked.effort ≤ 200) × AreWeights asked.weights
IsInLimits (Confirm asked) = (1 ≤ asked.slots) × (asked.slots ≤ 64) × AreWeights asked.weights

-- the numbers of a command that words spell are in range
abbrev pub WordsAreInLimits : Type 0
WordsAreInLimits = (words : List (List ℕ)) (asked : ImproveCommand) → command words ≡ Some asked → IsInLimits asked

-- the number of its slots
abbrev pub slots_of : ImproveCommand → ℕ
slots_of (Improve asked) = asked.slots
slots_of (Confirm asked) = asked.slots
