-- The bytes of a table, this project's own. All numbers are big-endian: the mark, the version, the numbers of vertices and slots, the weights
-- of a load and a store where the version is 2, the bound and the number of rows; then for each row its cost, its red and its blue words.
-- The version is 1 where both weights are 1.
use Rattle.std.specs.Prelude.{◌≡◌, ℕ, ◌+◌, ◌/◌, ◌*◌, ◌^◌, ◌≤◌, ◌<◌, Bool, cond, ◌&&◌, nat_eq, List, [], ◌++◌, length, take, flat_map, codes}
use Rattle.std.specs.Int.{bytes_high_first}
use Rattle.comp_graph.specs.Vertices.{Vertices, AllBelow}
use Rattle.comp_graph.specs.Words.{words_of}
use Rattle.comp_graph.specs.Lists.{IsIn}
use Rattle.potential_cert.specs.declared.tables.Row.{Row}
use Rattle.potential_cert.specs.Table.{TableParts}

-- the lowest bytes of a number, as many as the width, the highest of them first
abbrev pub big_endian : ℕ → ℕ → List ℕ
big_endian width n = bytes_high_first width n

-- how many words of 64 bits a set of n vertices takes
abbrev pub words_in : ℕ → ℕ
words_in n = (n + 63) / 64

-- the first words of a set
abbrev pub set_bytes : ℕ → Vertices → List ℕ
set_bytes words s = flat_map (big_endian 8) (take words (words_of s))

abbrev pub row_bytes : ℕ → Row → List ℕ
row_bytes words r = big_endian 4 r.cost ++ (set_bytes words r.position.red ++ set_bytes words r.position.blue)

-- the numbers of a table, without its rows
pub record Numbers : Type 0 where
  pub vertices : ℕ
  pub slots : ℕ
  pub load : ℕ
  pub store : ℕ
  pub bound : ℕ
  pub rows : ℕ

abbrev pub numbers_of : TableParts → Numbers
numbers_of t = record { vertices = t.vertices; slots = t.slots; load = t.load; store = t.store; bound = t.bound; rows = length t.rows }

-- both weights are 1
abbrev pub are_ones : ℕ → ℕ → Bool
are_ones load store = nat_eq load 1 && nat_eq store 1

abbrev pub version_of : ℕ → ℕ → ℕ
version_of load store = cond (are_ones load store) 1 2

-- version 2 has the weights
abbrev pub weight_bytes : ℕ → ℕ → List ℕ
weight_bytes load store = cond (are_ones load store) [] (big_endian 1 load ++ big_endian 1 store)

-- the mark, the version and the numbers
abbrev pub header_bytes : Numbers → List ℕ
header_bytes h =
    codes "RBPT" ++ (big_endian 2 (version_of h.load h.store) ++ (big_endian 2 h.vertices ++ (big_endian 2 h.slots
    ++ (weight_bytes h.load h.store ++ (big_endian 4 h.bound ++ big_endian 4 h.rows)))))

-- the bytes of a table
abbrev pub table_bytes : TableParts → List ℕ
table_bytes t = header_bytes (numbers_of t) ++ flat_map (row_bytes (words_in t.vertices)) t.rows

-- ---- what can be spelled

-- at most 256 vertices, from 1 to 64 slots, weights from 1 to 16, and numbers of 32 bits
pub record NumbersFit (h : Numbers) : Type 0 where
  pub vertices : h.vertices ≤ 256
  pub some_slots : 1 ≤ h.slots
  pub slots : h.slots ≤ 64
  pub some_load : 1 ≤ h.load
  pub load : h.load ≤ 16
  pub some_store : 1 ≤ h.store
  pub store : h.store ≤ 16
  pub bound : h.bound < 2 ^ 32
  pub rows : h.rows < 2 ^ 32

-- the sets lie in the words
pub record RowFits (words : ℕ) (r : Row) : Type 0 where
  pub cost : r.cost < 2 ^ 32
  pub red : AllBelow (64 * words) r.position.red
  pub blue : AllBelow (64 * words) r.position.blue

pub record CanBeSpelled (t : TableParts) : Type 0 where
  pub numbers : NumbersFit (numbers_of t)
  pub rows : (r : Row) → IsIn r t.rows → RowFits (words_in t.vertices) r

-- the costs have 32 bits
abbrev pub AreWords : List Row → Type 0
AreWords rows = (r : Row) → IsIn r rows → r.cost < 2 ^ 32

-- what writing asks of a table: its numbers are in their ranges, and its sets lie in the words. That the bound and the costs have 32 bits,
-- their types say.
pub record IsInRange (t : TableParts) : Type 0 where
  pub vertices : t.vertices ≤ 256
  pub some_slots : 1 ≤ t.slots
  pub slots : t.slots ≤ 64
  pub some_load : 1 ≤ t.load
  pub load : t.load ≤ 16
  pub some_store : 1 ≤ t.store
  pub store : t.store ≤ 16
  pub few : length t.rows < 2 ^ 32
  pub red : (r : Row) → IsIn r t.rows → AllBelow (64 * words_in t.vertices) r.position.red
  pub blue : (r : Row) → IsIn r t.rows → AllBelow (64 * words_in t.vertices) r.position.blue

-- the bytes spell the table
pub record IsSpelling (bytes : List ℕ) (t : TableParts) : Type 0 where
  pub fits : CanBeSpelled t
  pub bytes_are : bytes ≡ table_bytes t

-- there is one spelling per table, bytes spell one table, and no spelling begins another
abbrev pub SpellingIsOne : Type 0
SpellingIsOne = (t u : TableParts) (r s : List ℕ) → CanBeSpelled t → CanBeSpelled u → table_bytes t ++ r ≡ table_bytes u ++ s → (t ≡ u) × (r ≡ s)
