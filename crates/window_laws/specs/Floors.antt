-- Floors of a position of a window, this project's own: numbers that no play from there beats.
use Rattle.std.specs.Prelude.{ℕ, ◌≤◌, max, List}
use Rattle.comp_graph.specs.Games.{PebbleGame}
use Rattle.pebble_rules.specs.declared.position.Position.{Position}
use Rattle.normal_steps.specs.declared.step.Step.{Step}
use Rattle.window_game.specs.Windows.{Window}
use Rattle.window_game.specs.Plays.{IsFinishingIn, total_cost_in}
use Rattle.window_laws.specs.Sound.{IsSoundIn}

-- if p is sound, each play from p that finishes costs at least n
abbrev pub IsFloorAt : PebbleGame → Window → Position → ℕ → Type 0
IsFloorAt g w p n = IsSoundIn g w p → (ss : List Step) → IsFinishingIn g w p ss → n ≤ total_cost_in g w p ss

-- the greater of two floors is a floor
abbrev pub GreaterFloorHolds : Type 0
GreaterFloorHolds =
    (g : PebbleGame) (w : Window) (p : Position) (m n : ℕ)
    → IsFloorAt g w p m → IsFloorAt g w p n → IsFloorAt g w p (max m n)
