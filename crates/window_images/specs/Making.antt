-- How the inverse of a list and the image of a set are made, a number at a time. No public contract uses these definitions.
use Rattle.std.specs.Prelude.{◌≡◌, ℕ, ◌<◌, ◌/◌, Bool, true, not, ◌&&◌, nat_le, List, length, slice_index}
use Rattle.std.specs.FinSet as set
use Rattle.comp_graph.specs.Vertices.{Vertices, ◌∈◌}
use Rattle.window_laws.specs.Images.{Renaming}

-- some number is at two places of the list
pub record IsTwice (xs : List ℕ) : Type 0 where
  pub first : ℕ
  pub second : ℕ
  pub apart : first < second
  pub within : second < length xs
  pub same : slice_index xs first ≡ slice_index xs second

-- the numbers of two lists are below 256, and undo each other
pub record IsInverse (xs ys : List ℕ) : Type 0 where
  pub all_there : length ys ≡ 256
  pub below : (v : ℕ) → v < 256 → slice_index xs v < 256
  pub below_back : (v : ℕ) → v < 256 → slice_index ys v < 256
  pub there_back : (v : ℕ) → v < 256 → slice_index xs (slice_index ys v) ≡ v
  pub back_there : (v : ℕ) → v < 256 → slice_index ys (slice_index xs v) ≡ v

-- `left` says which members of a set are still to come: `done` has the images of the others, and no more
pub record IsDone (r : Renaming) (s : Vertices) (left : ℕ → Bool) (done : Vertices) : Type 0 where
  pub part : (v : ℕ) → left v ≡ true → v ∈ s
  pub member : (w : ℕ) → set.contains done w ≡ (set.contains s (r.back w) && not (left (r.back w)))

-- whether v is a member of a set, in its word k or a later one
abbrev pub from_word : Vertices → ℕ → ℕ → Bool
from_word s k v = nat_le k (v / 64) && set.contains s v
