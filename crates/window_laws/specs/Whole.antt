-- The whole graph as a window, this project's own. A play of the game pays its whole cost for this window, so a bound loses nothing by it.
use Rattle.std.specs.Prelude.{◌≡◌, ℕ, List}
use Rattle.comp_graph.specs.Dags.{IsDag}
use Rattle.comp_graph.specs.Games.{PebbleGame}
use Rattle.pebble_rules.specs.Rules.{start}
use Rattle.normal_steps.specs.declared.step.Step.{Step}
use Rattle.normal_steps.specs.Steps.{IsPlay, IsFinishing, total_cost}
use Rattle.window_game.specs.Windows.{IsWindow, whole}
use Rattle.window_game.specs.Plays.{start_in, IsFinishingIn, total_cost_in}
use Rattle.window_game.specs.Views.{paid}

-- the whole graph is a window of the game
abbrev pub WholeIsWindow : Type 0
WholeIsWindow = (g : PebbleGame) → IsDag g.dag → IsWindow g (whole g)

-- a play from the start pays exactly its total cost for it
abbrev pub WholeIsPaid : Type 0
WholeIsPaid =
    (g : PebbleGame) → IsDag g.dag → (ss : List Step) → IsPlay g (start g) ss
    → paid g (whole g) (start g) ss ≡ total_cost g (start g) ss

-- the steps are a play of the game that finishes, at this cost
pub record IsPlayOfGame (g : PebbleGame) (ss : List Step) (costs : ℕ) : Type 0 where
  pub finishing : IsFinishing g (start g) ss
  pub total : total_cost g (start g) ss ≡ costs

-- each play of this window that finishes is a play of the game that finishes, at the same cost
abbrev pub WholeIsGame : Type 0
WholeIsGame =
    (g : PebbleGame) → IsDag g.dag → (ss : List Step) → IsFinishingIn g (whole g) (start_in g (whole g)) ss
    → IsPlayOfGame g ss (total_cost_in g (whole g) (start_in g (whole g)) ss)
