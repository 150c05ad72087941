-- Windows that share no charge, this project's own: a play pays for all of them at most what it costs, so their bounds add up.
use Rattle.std.specs.Prelude.{ℕ, ◌+◌, ◌≤◌, List, [], ◌∷◌, ⊤}
use Rattle.comp_graph.specs.Vertices.{IsOutside}
use Rattle.comp_graph.specs.Dags.{IsDag}
use Rattle.comp_graph.specs.Games.{PebbleGame}
use Rattle.pebble_rules.specs.Rules.{start, IsComplete, cost}
use Rattle.pebble_rules.specs.declared.position.Position.{Position}
use Rattle.pebble_rules.specs.declared.moves.Move.{Move}
use Rattle.normal_steps.specs.declared.step.Step.{Step}
use Rattle.normal_steps.specs.Steps.{total_cost}
use Rattle.window_game.specs.Windows.{Window, IsWindow}
use Rattle.window_game.specs.Plays.{start_in, IsFinishingIn, total_cost_in}
use Rattle.window_game.specs.Views.{paid}

-- no load and no store is charged in both windows
pub record AreApart (w x : Window) : Type 0 where
  pub loads : (v : ℕ) → IsOutside (w.loads v) (x.loads v)
  pub stores : IsOutside w.stores x.stores

-- none is charged in the first window and in one of these
abbrev pub IsApartFrom : Window → List Window → Type 0
IsApartFrom w [] = ⊤
IsApartFrom w (x ∷ xs) = AreApart w x × IsApartFrom w xs

-- none is charged in two windows of the list
abbrev pub AreAllApart : List Window → Type 0
AreAllApart [] = ⊤
AreAllApart (w ∷ ws) = IsApartFrom w ws × AreAllApart ws

-- each is a window of the game
abbrev pub AreWindows : PebbleGame → List Window → Type 0
AreWindows g [] = ⊤
AreWindows g (w ∷ ws) = IsWindow g w × AreWindows g ws

-- the sum of a number for each window of a list
abbrev pub sum_over : (Window → ℕ) → List Window → ℕ
sum_over f [] = 0
sum_over f (w ∷ ws) = f w + sum_over f ws

-- a play pays for windows that share no charge at most what it costs
abbrev pub PaidOnce : Type 0
PaidOnce =
    (g : PebbleGame) (ws : List Window) → AreWindows g ws → AreAllApart ws
    → (p : Position) (ss : List Step) → sum_over (λ w. paid g w p ss) ws ≤ total_cost g p ss

-- each play of the window that finishes costs at least this
abbrev pub IsBoundIn : PebbleGame → Window → ℕ → Type 0
IsBoundIn g w bound = (ss : List Step) → IsFinishingIn g w (start_in g w) ss → bound ≤ total_cost_in g w (start_in g w) ss

-- the lists have the same length, and each number is a bound of its window
abbrev pub AreBoundsIn : PebbleGame → List Window → List ℕ → Type 0
AreBoundsIn g [] [] = ⊤
AreBoundsIn g [] (b ∷ bs) = ⊥
AreBoundsIn g (w ∷ ws) [] = ⊥
AreBoundsIn g (w ∷ ws) (b ∷ bs) = IsBoundIn g w b × AreBoundsIn g ws bs

-- the sum of the numbers
abbrev pub total : List ℕ → ℕ
total [] = 0
total (n ∷ ns) = n + total ns

-- the bounds of windows that share no charge add up to at most the cost of each complete pebbling
abbrev pub BoundsAddUp : Type 0
BoundsAddUp =
    (g : PebbleGame) → IsDag g.dag → (ws : List Window) → AreWindows g ws → AreAllApart ws
    → (bounds : List ℕ) → AreBoundsIn g ws bounds
    → (ms : List Move) → IsComplete g (start g) ms → total bounds ≤ cost g ms
