-- What holds at each position of a play of a window, this project's own.
use Rattle.std.specs.Prelude.{◌≤◌, List}
use Rattle.std.specs.FinSet as set
use Rattle.comp_graph.specs.Vertices.{IsWithin, size}
use Rattle.comp_graph.specs.Games.{PebbleGame}
use Rattle.pebble_rules.specs.declared.position.Position.{Position}
use Rattle.normal_steps.specs.declared.step.Step.{Step}
use Rattle.window_game.specs.Windows.{Window, IsWindow, known}
use Rattle.window_game.specs.Plays.{start_in, IsPlayIn, play_after_in}

-- red pebbles are on tracked vertices, blue ones on vertices that can have a pebble, each tracked input is blue, and the red pebbles fit
-- the slots
pub record IsSoundIn (g : PebbleGame) (w : Window) (p : Position) : Type 0 where
  pub red_tracked : IsWithin p.red w.tracked
  pub blue_known : IsWithin p.blue (known w)
  pub inputs_blue : IsWithin (set.intersection g.dag.inputs w.tracked) p.blue
  pub fits : size p.red ≤ g.slots

-- the start is sound
abbrev pub StartIsSoundIn : Type 0
StartIsSoundIn = (g : PebbleGame) (w : Window) → IsSoundIn g w (start_in g w)

-- a play from a sound position leads to sound positions
abbrev pub PlaysKeepSoundIn : Type 0
PlaysKeepSoundIn =
    (g : PebbleGame) (w : Window) → IsWindow g w → (p : Position) → IsSoundIn g w p
    → (ss : List Step) → IsPlayIn g w p ss → IsSoundIn g w (play_after_in g w p ss)
