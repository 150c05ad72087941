-- How the fields of `Positions` stand for its positions and heads.
use Rattle.std.specs.Prelude.{◌≡◌, ℕ, ◌+◌, ◌*◌, ◌<◌, ◌≤◌, List, [], length, map, slice_index_or}
use Rattle.position_arena.specs.Arenas.{Arena}
use Rattle.position_arena.specs.Index.{IsIndex, keys_of}
use Rattle.position_arena.specs.SlotRows.{slot_of, IsSlotRow}
use Rattle.position_arena.specs.Stores.{StoredRows}
use Rattle.position_arena.specs.declared.rows.Positions.TheInside.{Inside}

-- the rows as positions with their heads
abbrev pub arena_of : Inside → Arena
arena_of a = record { words = a.words; slots = map (slot_of a.words) a.store.rows }

-- the rows of positions, and the index of their words, at most two thirds full
pub record AreRows (words : ℕ) (store : StoredRows) (places : List ℕ) : Type 0 where
  pub narrow : words ≤ 4
  pub wide : store.wide ≡ 2 * words + 2
  pub few : length store.rows ≤ 4294967295
  pub laid : (k : ℕ) → k < length store.rows → IsSlotRow words (slice_index_or store.rows k [])
  pub index : IsIndex (keys_of (2 * words) store.rows) places
  pub loose : 3 * length store.rows ≤ 2 * length places

-- the fields are such rows
abbrev pub IsArena : Inside → Type 0
IsArena a = AreRows a.words a.store a.places.items
