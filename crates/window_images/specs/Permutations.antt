-- Permutations of the vertices as lists, this project's own, and the images of sets and positions under them.
use Rattle.std.specs.Prelude.{◌≡◌, ℕ, ◌<◌, List, length, map, slice_index, slice_index_or}
use Rattle.std.specs.FinSet as set
use Rattle.comp_graph.specs.Vertices.{Vertices, set_below}
use Rattle.pebble_rules.specs.declared.position.Position.{Position}
use Rattle.window_laws.specs.Images.{Renaming, renaming_of}

-- the numbers of the list are below its length, and none is in it twice
pub record IsPermutation (xs : List ℕ) : Type 0 where
  pub below : (v : ℕ) → v < length xs → slice_index xs v < length xs
  pub once : (v w : ℕ) → v < length xs → w < length xs → slice_index xs v ≡ slice_index xs w → v ≡ w

-- at place v of `there` is the number to which v goes, and at place v of `back` the one that goes to v
pub record PermutationParts : Type 0 where
  pub there : List ℕ
  pub back : List ℕ

-- the renaming by these lists
abbrev pub renaming : PermutationParts → Renaming
renaming p = renaming_of p.there p.back

-- the renamings of a list of them
abbrev pub renamings : List PermutationParts → List Renaming
renamings ps = map renaming ps

-- the two directions of a renaming undo each other
pub record IsUndone (r : Renaming) : Type 0 where
  pub there_back : (v : ℕ) → r.there (r.back v) ≡ v
  pub back_there : (v : ℕ) → r.back (r.there v) ≡ v

-- two lists for the numbers below 256 that undo each other
pub record ArePermutationParts (p : PermutationParts) : Type 0 where
  pub all_there : length p.there ≡ 256
  pub all_back : length p.back ≡ 256
  pub undone : IsUndone (renaming p)

-- the list is a permutation, and vertex v is renamed to the number at its place v; a vertex beyond its end keeps its number
pub record IsRenamingBy (xs : List ℕ) (p : PermutationParts) : Type 0 where
  pub permutation : IsPermutation xs
  pub there : (v : ℕ) → (renaming p).there v ≡ slice_index_or xs v v
  pub undone : IsUndone (renaming p)

-- the image of a set: the vertices below 256 that go back to a member
unfoldable pub set_image : Renaming → Vertices → Vertices
set_image r s = set_below (λ v. set.contains s (r.back v)) 256

-- the image of a position
abbrev pub position_image : Renaming → Position → Position
position_image r p = record { red = set_image r p.red; blue = set_image r p.blue }
