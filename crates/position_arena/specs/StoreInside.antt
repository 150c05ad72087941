-- How the fields of `Store` stand for its rows.
use Rattle.std.specs.Prelude.{◌≡◌, ℕ, ◌+◌, ◌-◌, ◌*◌, ◌<◌, ◌≤◌, min, List, length, slice_index_or}
use Rattle.raw_chunk.specs.Numbers.{Numbers}
use Rattle.position_arena.specs.Stores.{StoredRows, values_below, no_chunk, laid_row}
use Rattle.position_arena.specs.declared.store.Store.TheInside.{Inside}

-- the rows that the chunks hold
abbrev pub stored_rows : Inside → StoredRows
stored_rows a = record { wide = a.wide; room = 4096 * length a.chunks.items; rows = values_below (laid_row a.wide a.chunks.items) a.len }

-- how many of n rows lie in chunk c
abbrev pub rows_in : ℕ → ℕ → ℕ
rows_in n c = min 4096 (n - c * 4096)

-- chunk c holds its rows, and has room for 4,096
pub record IsLaid (wide n c : ℕ) (chunk : Numbers) : Type 0 where
  pub room : chunk.room ≡ 4096 * wide
  pub items : length chunk.items ≡ rows_in n c * wide

-- n rows of `wide` numbers lie in the chunks
pub record AreLaid (wide n : ℕ) (chunks : List Numbers) : Type 0 where
  pub narrow : wide ≤ 10
  pub enough : n ≤ 4096 * length chunks
  pub few : 4096 * length chunks ≤ n + 4096
  pub laid : (c : ℕ) → c < length chunks → IsLaid wide n c (slice_index_or chunks c no_chunk)

abbrev pub IsStore : Inside → Type 0
IsStore a = AreLaid a.wide a.len a.chunks.items
