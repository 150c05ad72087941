-- Which list of numbers a values file spells (this project's convention): numbers, with one or more spaces between two of them, and any
-- spaces before the first and after the last. A file of spaces alone, and an empty one, spell the empty list.
use Rattle.std.specs.Prelude.{◌≡◌, ℕ, ℤ, ◌==◌, ◌||◌, Bool, true, List, [], ◌∷◌, ◌++◌, Some}
use Rattle.std.specs.List.{list_all}
use Rattle.values_text.specs.Numbers.{number_of}

-- a space, a tab, a carriage return or a line feed
abbrev pub is_space : ℕ → Bool
is_space c = (c == 32) || (c == 9) || (c == 13) || (c == 10)

-- the text is at its end, or goes on with a space
abbrev pub EndsWord : List ℕ → Type 0
EndsWord [] = Unit {0}
EndsWord (c ∷ cs) = is_space c ≡ true

-- the text is spaces, a word that spells the number, and the rest, which does not make the word longer
pub record BeginsWith (text : List ℕ) (value : ℤ) (rest : List ℕ) : Type 0 where
  pub gap : List ℕ
  pub word : List ℕ
  pub split : text ≡ gap ++ (word ++ rest)
  pub spaces : list_all is_space gap ≡ true
  pub number : number_of word ≡ Some value
  pub ends : EndsWord rest

-- the text spells these numbers
abbrev pub Spells : List ℕ → List ℤ → Type 0
Spells text [] = list_all is_space text ≡ true
Spells text (value ∷ values) = (rest : List ℕ) × BeginsWith text value rest × Spells rest values

-- a text spells at most one list of numbers
abbrev pub SpellsOneList : Type 0
SpellsOneList = (text : List ℕ) (some others : List ℤ) → Spells text some → Spells text others → some ≡ others
