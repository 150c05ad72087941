-- Values files (this project's convention): a command wants so many numbers in a file.
use Rattle.std.specs.Prelude.{◌≡◌, ◌⊎◌, ◌≤◌, ℕ, ℤ, List, length, codes}
use Rattle.values_text.specs.Values.{Spells}

-- the line for a file that holds no values of the right number
abbrev pub values_fault_text : List ℕ
values_fault_text = codes "values fault\n"

-- the bytes hold so many values: they are at most 1,000,000 bytes, which spell just these numbers
pub record HoldsValues (count : ℕ) (bytes : List ℕ) (values : List ℤ) : Type 0 where
  pub short : length bytes ≤ 1000000
  pub spelled : Spells bytes values
  pub counted : length values ≡ count

-- the bytes hold no values of this number
abbrev pub HoldsNone : ℕ → List ℕ → Type 0
HoldsNone count bytes = (values : List ℤ) → HoldsValues count bytes values → ⊥

-- each file of bytes holds values of a number, or holds none
abbrev pub HoldsOrNot : Type 0
HoldsOrNot = (count : ℕ) (bytes : List ℕ) → ((values : List ℤ) × HoldsValues count bytes values) ⊎ HoldsNone count bytes
