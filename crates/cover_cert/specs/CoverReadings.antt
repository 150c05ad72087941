-- What the parts of a reading of a covered table say.
use Rattle.std.specs.Prelude.{◌≡◌, ℕ, List, ◌++◌, length, flat_map}
use Rattle.comp_graph.specs.Lists.{IsIn}
use Rattle.potential_cert.specs.TableBytes.{Numbers, NumbersFit}
use Rattle.cover_cert.specs.declared.reading.Header.{Header}
use Rattle.cover_cert.specs.declared.tables.Cover.{Cover}
use Rattle.cover_cert.specs.CoverTable.{CoverRowParts}
use Rattle.cover_cert.specs.CoverBytes.{name_bytes, cover_row_bytes, cover_header, NameFits, CoverRowFits}

-- the numbers of a table, as they are read
abbrev pub numbers_in : Header → Numbers
numbers_in h = record { vertices = h.vertices; slots = h.slots; load = h.weights.load; store = h.weights.store; bound = h.bound; rows = h.rows }

-- the bytes begin with so many names, and `rest` is left
pub record BeginsWithNames (count : ℕ) (bytes rest : List ℕ) (names : List Cover) : Type 0 where
  pub many : length names ≡ count
  pub fit : (n : Cover) → IsIn n names → NameFits n
  pub bytes_are : bytes ≡ flat_map name_bytes names ++ rest

-- the bytes begin with this row, and `rest` is left
pub record BeginsWithRow (words : ℕ) (bytes rest : List ℕ) (r : CoverRowParts) : Type 0 where
  pub fits : CoverRowFits words r
  pub bytes_are : bytes ≡ cover_row_bytes words r ++ rest

-- the bytes begin with so many rows, and `rest` is left
pub record BeginsWithRows (words count : ℕ) (bytes rest : List ℕ) (rows : List CoverRowParts) : Type 0 where
  pub many : length rows ≡ count
  pub fit : (r : CoverRowParts) → IsIn r rows → CoverRowFits words r
  pub bytes_are : bytes ≡ flat_map (cover_row_bytes words) rows ++ rest

-- the bytes begin with these numbers, and `rest` is left
pub record BeginsWithNumbers (bytes rest : List ℕ) (h : Numbers) : Type 0 where
  pub fit : NumbersFit h
  pub bytes_are : bytes ≡ cover_header h ++ rest

-- the bytes begin with no such thing
abbrev pub BeginsWithNone : {X : Type 0} → (List ℕ → List ℕ → X → Type 0) → List ℕ → Type 0
BeginsWithNone {X} begins bytes = (rest : List ℕ) (x : X) → begins bytes rest x → ⊥
