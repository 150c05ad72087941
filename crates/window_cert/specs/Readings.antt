-- What the parts of a reading say.
use Rattle.std.specs.Prelude.{◌≡◌, ℕ, List, ◌++◌, length, flat_map}
use Rattle.comp_graph.specs.Lists.{IsIn}

-- the bytes begin with the spelling of x, which fits, and `rest` is left
pub record BeginsWith {X : Type 0} (spell : X → List ℕ) (Fits : X → Type 0) (bytes rest : List ℕ) (x : X) : Type 0 where
  pub fits : Fits x
  pub bytes_are : bytes ≡ spell x ++ rest

-- the bytes begin with no such spelling
abbrev pub BeginsWithNone : {X : Type 0} → (X → List ℕ) → (X → Type 0) → List ℕ → Type 0
BeginsWithNone {X} spell Fits bytes = (rest : List ℕ) (x : X) → BeginsWith spell Fits bytes rest x → ⊥

-- the bytes begin with so many spellings, one after another, and `rest` is left
pub record BeginsWithMany {X : Type 0} (spell : X → List ℕ) (Fits : X → Type 0) (count : ℕ) (bytes rest : List ℕ) (xs : List X) : Type 0 where
  pub many : length xs ≡ count
  pub fit : (x : X) → IsIn x xs → Fits x
  pub bytes_are : bytes ≡ flat_map spell xs ++ rest

-- the bytes begin with no such spellings
abbrev pub BeginsWithFewer : {X : Type 0} → (X → List ℕ) → (X → Type 0) → ℕ → List ℕ → Type 0
BeginsWithFewer {X} spell Fits count bytes = (rest : List ℕ) (xs : List X) → BeginsWithMany spell Fits count bytes rest xs → ⊥
