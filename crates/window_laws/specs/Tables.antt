-- Tables of positions of a window with their costs, up to automorphisms, this project's own, and the bound that they prove.
use Rattle.std.specs.Prelude.{◌⊎◌, ℕ, ◌+◌, ◌≤◌, List}
use Rattle.comp_graph.specs.Games.{PebbleGame}
use Rattle.pebble_rules.specs.declared.position.Position.{Position}
use Rattle.normal_steps.specs.declared.step.Step.{Step}
use Rattle.comp_graph.specs.Lists.{IsIn}
use Rattle.potential_cert.specs.declared.tables.Row.{Row}
use Rattle.potential_cert.specs.Table.{HasRowWithin}
use Rattle.window_game.specs.Windows.{Window, IsWindow}
use Rattle.window_game.specs.Plays.{start_in, IsStepIn, stepped_in, step_cost_in, CanFinishIn, finish_cost_in}
use Rattle.window_game.specs.Bounds.{IsBoundIn}
use Rattle.window_laws.specs.Floors.{IsFloorAt}
use Rattle.window_laws.specs.Images.{Renaming, AreAutomorphisms, IsTurnedTo}

-- a position reached at this cost is settled: an image of it is a row of at most this cost, or has a floor that reaches the bound together
-- with this cost
abbrev pub IsSettled : PebbleGame → Window → List Renaming → List Row → ℕ → Position → ℕ → Type 0
IsSettled g w rs rows bound p paid =
    (q : Position) × IsTurnedTo rs p q × (HasRowWithin rows q paid ⊎ ((n : ℕ) × IsFloorAt g w q n × (bound ≤ paid + n)))

-- the rows and the bound are valid: the start is settled, each legal step from a row leads to a settled position, and a row at which the
-- play can finish reaches the bound together with the finish
pub record IsValidIn (g : PebbleGame) (w : Window) (rs : List Renaming) (rows : List Row) (bound : ℕ) : Type 0 where
  pub begins : IsSettled g w rs rows bound (start_in g w) 0
  pub steps : (r : Row) → IsIn r rows → (s : Step) → IsStepIn g w r.position s
      → IsSettled g w rs rows bound (stepped_in g w r.position s) (r.cost + step_cost_in g w r.position s)
  pub finishes : (r : Row) → IsIn r rows → CanFinishIn g w r.position → bound ≤ r.cost + finish_cost_in g w r.position

-- each play of the window that finishes costs at least the bound of a valid table
abbrev pub TablesBoundWindows : Type 0
TablesBoundWindows =
    (g : PebbleGame) (w : Window) → IsWindow g w → (rs : List Renaming) → AreAutomorphisms g w rs
    → (rows : List Row) (bound : ℕ) → IsValidIn g w rs rows bound → IsBoundIn g w bound
