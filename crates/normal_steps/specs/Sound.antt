-- What each position of a normal play keeps.
use Rattle.std.specs.Prelude.{ℕ, ◌≤◌, ◌<◌, List}
use Rattle.comp_graph.specs.Vertices.{◌∈◌, IsWithin, size}
use Rattle.comp_graph.specs.Dags.{IsDag}
use Rattle.comp_graph.specs.Games.{PebbleGame}
use Rattle.pebble_rules.specs.Rules.{start}
use Rattle.pebble_rules.specs.declared.position.Position.{Position}
use Rattle.normal_steps.specs.Steps.{IsPlay, play_after}
use Rattle.normal_steps.specs.declared.step.Step.{Step}

-- pebbles stand on vertices, each input is blue, and there are no more red pebbles than slots
pub record IsSound (g : PebbleGame) (p : Position) : Type 0 where
  pub red_below : (v : ℕ) → v ∈ p.red → v < g.dag.count
  pub blue_below : (v : ℕ) → v ∈ p.blue → v < g.dag.count
  pub inputs_blue : IsWithin g.dag.inputs p.blue
  pub fits : size p.red ≤ g.slots

-- the start is sound
abbrev pub StartIsSound : Type 0
StartIsSound = (g : PebbleGame) → IsDag g.dag → IsSound g (start g)

-- a play from a sound position leads to sound positions
abbrev pub PlaysKeepSound : Type 0
PlaysKeepSound =
    (g : PebbleGame) → IsDag g.dag → (p : Position) → IsSound g p → (ss : List Step) → IsPlay g p ss → IsSound g (play_after g p ss)
