-- Rows of equally many numbers.
use Rattle.std.specs.Prelude.{ℕ, ◌*◌, ◌/◌, ◌%◌, zero, suc, List, [], ◌∷◌, ◌++◌, take, drop, slice_index_or}
use Rattle.raw_chunk.specs.Numbers.{Numbers}

-- rows of `wide` numbers each, in memory that has room for `room` rows
pub record StoredRows : Type 0 where
  pub wide : ℕ
  pub room : ℕ
  pub rows : List (List ℕ)

-- the same with other rows
abbrev pub with_rows : StoredRows → List (List ℕ) → StoredRows
with_rows t rows = record { wide = t.wide; room = t.room; rows = rows }

-- row k
abbrev pub row_at : StoredRows → ℕ → List ℕ
row_at t k = slice_index_or t.rows k []

-- the values of f at the numbers below n
unfoldable pub values_below : {X : Type 0} → (ℕ → X) → ℕ → List X
values_below f zero = []
values_below f (suc n) = values_below f n ++ f n ∷ []

-- no chunk
abbrev pub no_chunk : Numbers
no_chunk = record { room = 0; items = [] }

-- row k lies in chunk k / 4096, behind the k % 4096 rows before it there
abbrev pub laid_row : ℕ → List Numbers → ℕ → List ℕ
laid_row wide chunks k = take wide (drop ((k % 4096) * wide) (slice_index_or chunks (k / 4096) no_chunk).items)
