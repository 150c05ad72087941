-- The bytes of a covered table, this project's own. All numbers are big-endian: the mark, the version, the numbers of vertices and slots, the
-- weights, the bound and the number of rows; then for each row its cost, its red and its blue words, the number of its names, and for each
-- name its place and its row.
use Rattle.std.specs.Prelude.{◌≡◌, ◌⊎◌, ℕ, ◌*◌, ◌^◌, ◌≤◌, ◌<◌, List, ◌++◌, length, flat_map, codes}
use Rattle.comp_graph.specs.Vertices.{AllBelow}
use Rattle.comp_graph.specs.Lists.{IsIn}
use Rattle.potential_cert.specs.TableBytes.{big_endian, words_in, row_bytes, Numbers, NumbersFit, RowFits}
use Rattle.cover_cert.specs.declared.tables.Cover.{Cover}
use Rattle.cover_cert.specs.CoverTable.{CoverRowParts, CoverTableParts, plain}

-- the place of a name and its row
abbrev pub name_bytes : Cover → List ℕ
name_bytes n = big_endian 2 n.step ++ big_endian 4 n.row

-- how many names there are, and each of them
abbrev pub names_bytes : List Cover → List ℕ
names_bytes names = big_endian 2 (length names) ++ flat_map name_bytes names

-- a row as without its names, and then these
abbrev pub cover_row_bytes : ℕ → CoverRowParts → List ℕ
cover_row_bytes words r = row_bytes words (plain r) ++ names_bytes r.names

-- the numbers of a table, without its rows
abbrev pub cover_numbers : CoverTableParts → Numbers
cover_numbers t = record { vertices = t.vertices; slots = t.slots; load = t.load; store = t.store; bound = t.bound; rows = length t.rows }

-- the mark, the version 1 and the numbers
abbrev pub cover_header : Numbers → List ℕ
cover_header h =
    codes "RBPC" ++ (big_endian 2 1 ++ (big_endian 2 h.vertices ++ (big_endian 2 h.slots ++ (big_endian 1 h.load ++ (big_endian 1 h.store
    ++ (big_endian 4 h.bound ++ big_endian 4 h.rows))))))

-- the bytes of a table
abbrev pub cover_bytes : CoverTableParts → List ℕ
cover_bytes t = cover_header (cover_numbers t) ++ flat_map (cover_row_bytes (words_in t.vertices)) t.rows

-- ---- what can be spelled

-- a place of 16 bits, and a row of 32
pub record NameFits (n : Cover) : Type 0 where
  pub step : n.step < 2 ^ 16
  pub row : n.row < 2 ^ 32

-- the row fits without its names, and there are fewer than 65,536 of these
pub record CoverRowFits (words : ℕ) (r : CoverRowParts) : Type 0 where
  pub plain_fits : RowFits words (plain r)
  pub few : length r.names < 2 ^ 16
  pub names : (n : Cover) → IsIn n r.names → NameFits n

-- the numbers are in their ranges, which are those of a table without names, and each row fits
pub record CanBeSpelled (t : CoverTableParts) : Type 0 where
  pub numbers : NumbersFit (cover_numbers t)
  pub rows : (r : CoverRowParts) → IsIn r t.rows → CoverRowFits (words_in t.vertices) r

-- what the types of a row's numbers say: its cost has 32 bits, and its names fit
pub record AreRowWords (r : CoverRowParts) : Type 0 where
  pub cost : r.cost < 2 ^ 32
  pub names : (n : Cover) → IsIn n r.names → NameFits n

-- what writing asks of a table: its numbers are in their ranges, its sets lie in the words, and no row has more than 384 names. That the
-- bound, the costs and the names have their bits, their types say.
pub record IsCoverInRange (t : CoverTableParts) : Type 0 where
  pub vertices : t.vertices ≤ 256
  pub some_slots : 1 ≤ t.slots
  pub slots : t.slots ≤ 64
  pub some_load : 1 ≤ t.load
  pub load : t.load ≤ 16
  pub some_store : 1 ≤ t.store
  pub store : t.store ≤ 16
  pub few : length t.rows < 2 ^ 32
  pub red : (r : CoverRowParts) → IsIn r t.rows → AllBelow (64 * words_in t.vertices) r.position.red
  pub blue : (r : CoverRowParts) → IsIn r t.rows → AllBelow (64 * words_in t.vertices) r.position.blue
  pub names : (r : CoverRowParts) → IsIn r t.rows → length r.names ≤ 384

-- the bytes spell the table
pub record IsCoverSpelling (bytes : List ℕ) (t : CoverTableParts) : Type 0 where
  pub fits : CanBeSpelled t
  pub bytes_are : bytes ≡ cover_bytes t

-- there is one spelling per table, bytes spell one table, and no spelling begins another
abbrev pub CoverSpellingIsOne : Type 0
CoverSpellingIsOne = (t u : CoverTableParts) (r s : List ℕ) → CanBeSpelled t → CanBeSpelled u → cover_bytes t ++ r ≡ cover_bytes u ++ s → (t ≡ u) × (r ≡ s)

-- numbers of any size spell a covered table or spell none
abbrev pub CoverSpelledOrNot : Type 0
CoverSpelledOrNot = (bytes : List ℕ) → ((t : CoverTableParts) × IsCoverSpelling bytes t) ⊎ ((t : CoverTableParts) → IsCoverSpelling bytes t → ⊥)
