-- What the tests of a table are given, besides a game and a window of it.
use Rattle.std.specs.Prelude.{◌≡◌, ℕ, length}
use Rattle.comp_graph.specs.Games.{GameParts, game_of}
use Rattle.pebble_rules.specs.declared.position.Position.{Position}
use Rattle.normal_steps.specs.declared.step.Step.{Step}
use Rattle.potential_cert.specs.declared.tables.Row.{Row}
use Rattle.window_game.specs.Windows.{IsWindow}
use Rattle.window_steps.specs.declared.window_sets.WindowSets.{WindowSets}
use Rattle.window_steps.specs.Sets.{window_of}
use Rattle.window_floor.specs.declared.evaluating.WindowFloor.{WindowFloor}
use Rattle.window_floor.specs.Counting.{IsMadeFor}
use Rattle.window_images.specs.Permutations.{renamings}
use Rattle.window_checker.specs.declared.table.Table.{Table}
use Rattle.window_checker.specs.ValidCerts.{IsSettledBy, StepSettles, StepsSettle, StartSettles, FinishReaches, IsValidTable}

-- a window of the game with a load set for each vertex, and what its floors need
pub record IsReady (g : GameParts) (w : WindowSets) (made : WindowFloor) : Type 0 where
  pub loads : length w.loads.now ≡ length g.graph.nodes
  pub window : IsWindow (game_of g) (window_of w)
  pub floors : IsMadeFor (game_of g) (window_of w) made

-- the tests, by the parts of the table
abbrev pub IsSettledIn : GameParts → WindowSets → Table → Position → ℕ → Type 0
IsSettledIn g w t p paid = IsSettledBy (game_of g) (window_of w) (renamings t.permutations.now) t.rows.now t.bound p paid

abbrev pub StepSettlesIn : GameParts → WindowSets → Table → Row → Step → Type 0
StepSettlesIn g w t r s = StepSettles (game_of g) (window_of w) (renamings t.permutations.now) t.rows.now t.bound r s

abbrev pub StepsSettleIn : GameParts → WindowSets → Table → Row → Type 0
StepsSettleIn g w t r = StepsSettle (game_of g) (window_of w) (renamings t.permutations.now) t.rows.now t.bound r

abbrev pub StartSettlesIn : GameParts → WindowSets → Table → Type 0
StartSettlesIn g w t = StartSettles (game_of g) (window_of w) (renamings t.permutations.now) t.rows.now t.bound

abbrev pub FinishReachesIn : GameParts → WindowSets → Table → Row → Type 0
FinishReachesIn g w t r = FinishReaches (game_of g) (window_of w) t.bound r

abbrev pub IsValidTableIn : GameParts → WindowSets → Table → Type 0
IsValidTableIn g w t = IsValidTable (game_of g) (window_of w) (renamings t.permutations.now) t.rows.now t.bound
