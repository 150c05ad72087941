-- The index of rows: place numbers with open addressing. A row is looked for from the place that the hash of its words names on, one
-- place after another and round the end, up to the first free place.
use Rattle.std.specs.Prelude.{◌≡◌, ◌≢◌, ℕ, ◌+◌, ◌-◌, ◌*◌, ◌/◌, ◌%◌, ◌^◌, ◌<◌, nat_eq, nat_lt, cond, bit_xor, fold, List, length, take, map, slice_index, slice_index_or, slice_set}
use Rattle.std.specs.Prelude.{[], ◌∷◌}

-- what stands at a free place
abbrev pub nowhere : ℕ
nowhere = 4294967295

-- one word is mixed into a hash
unfoldable pub mixed : ℕ → ℕ → ℕ
mixed hash word = let product = (bit_xor hash word * 11400714819323198485) % 2 ^ 64 in bit_xor product (product / 2 ^ 32)

-- the hash of a row's words
abbrev pub hash_of : List ℕ → ℕ
hash_of words = fold mixed 0 words

-- of `size` places, the one that is looked at after `turn` others from `home` on
abbrev pub probed : ℕ → ℕ → ℕ → ℕ
probed size home turn = cond (nat_lt (home + turn) size) (home + turn) (home + turn - size)

-- what stands there
abbrev pub met : List ℕ → ℕ → ℕ → ℕ
met places home turn = slice_index places (probed (length places) home turn)

-- from `home` on, place number k is met before a free place
pub record IsMet (places : List ℕ) (home k : ℕ) : Type 0 where
  pub turn : ℕ
  pub within : turn < length places
  pub here : met places home turn ≡ k
  pub taken : (t : ℕ) → t < turn → met places home t ≢ nowhere

-- how many places are free
abbrev pub free_count : List ℕ → ℕ
free_count [] = 0
free_count (place ∷ places) = cond (nat_eq place nowhere) 1 0 + free_count places

-- of `size` places, the one that a hash below 2^64 names: all places have about equally many hashes
unfoldable pub homed : ℕ → ℕ → ℕ
homed size hash = hash * size / 2 ^ 64

-- where the search for a key begins
abbrev pub home_of : List ℕ → List ℕ → ℕ
home_of places key = homed (length places) (hash_of key)

-- key k
abbrev pub key_at : List (List ℕ) → ℕ → List ℕ
key_at keys k = slice_index_or keys k []

-- each key is met at its number, the numbers are those of keys, and every other place is free
pub record IsIndex (keys : List (List ℕ)) (places : List ℕ) : Type 0 where
  pub listed : (k : ℕ) → k < length keys → IsMet places (home_of places (key_at keys k)) k
  pub known : (j : ℕ) → j < length places → slice_index places j ≢ nowhere → slice_index places j < length keys
  pub free : length keys + free_count places ≡ length places

-- a place number is written at the first free place from `home` on
pub record IsPlaced (before after : List ℕ) (home k : ℕ) : Type 0 where
  pub turn : ℕ
  pub within : turn < length before
  pub free : met before home turn ≡ nowhere
  pub taken : (t : ℕ) → t < turn → met before home t ≢ nowhere
  pub written : after ≡ slice_set before (probed (length before) home turn) k

-- the keys of rows: their first words
abbrev pub keys_of : ℕ → List (List ℕ) → List (List ℕ)
keys_of width rows = map (take width) rows

-- no row has the key
abbrev pub IsNoKey : List (List ℕ) → List ℕ → Type 0
IsNoKey keys key = (k : ℕ) → k < length keys → key_at keys k ≢ key

-- row k has the key
abbrev pub IsKeyAt : List (List ℕ) → List ℕ → ℕ → Type 0
IsKeyAt keys key k = (k < length keys) × (key_at keys k ≡ key)
