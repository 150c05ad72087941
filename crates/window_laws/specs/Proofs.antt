-- A list of windows with tables that proves a bound, this project's own, and the law on which a checker of such lists can rest.
use Rattle.std.specs.Prelude.{ℕ, ◌≤◌, List, [], ◌∷◌, ⊤}
use Rattle.comp_graph.specs.Dags.{IsDag}
use Rattle.comp_graph.specs.Games.{PebbleGame}
use Rattle.pebble_rules.specs.Rules.{start, IsComplete, cost}
use Rattle.pebble_rules.specs.declared.moves.Move.{Move}
use Rattle.potential_cert.specs.declared.tables.Row.{Row}
use Rattle.window_game.specs.Windows.{Window, IsWindow}
use Rattle.window_game.specs.Bounds.{AreAllApart, total}
use Rattle.window_laws.specs.Tables.{IsValidIn}
use Rattle.window_laws.specs.Images.{Renaming, AreAutomorphisms}

-- a window, its automorphisms, and a table with its bound
pub record WindowTable : Type 0 where
  pub window : Window
  pub renamings : List Renaming
  pub rows : List Row
  pub bound : ℕ

-- the window is one of the game, the renamings are automorphisms of it, and the rows and the bound are valid
pub record IsProof (g : PebbleGame) (x : WindowTable) : Type 0 where
  pub window : IsWindow g x.window
  pub automorphisms : AreAutomorphisms g x.window x.renamings
  pub valid : IsValidIn g x.window x.renamings x.rows x.bound

-- each is a proof
abbrev pub AreProofs : PebbleGame → List WindowTable → Type 0
AreProofs g [] = ⊤
AreProofs g (x ∷ xs) = IsProof g x × AreProofs g xs

-- the windows of the list
abbrev pub windows_of : List WindowTable → List Window
windows_of [] = []
windows_of (x ∷ xs) = x.window ∷ windows_of xs

-- the bounds of the list
abbrev pub bounds_of : List WindowTable → List ℕ
bounds_of [] = []
bounds_of (x ∷ xs) = x.bound ∷ bounds_of xs

-- if no load and no store is charged in two windows, the sum of the bounds is at most the cost of each complete pebbling
abbrev pub ProofsBoundPebblings : Type 0
ProofsBoundPebblings =
    (g : PebbleGame) → IsDag g.dag → (xs : List WindowTable) → AreProofs g xs → AreAllApart (windows_of xs)
    → (ms : List Move) → IsComplete g (start g) ms → total (bounds_of xs) ≤ cost g ms
