-- When a game has a complete pebbling.
use Rattle.std.specs.Prelude.{◌≤◌, ◌<◌, List}
use Rattle.comp_graph.specs.Dags.{IsDag, degree}
use Rattle.comp_graph.specs.Games.{PebbleGame}
use Rattle.pebble_rules.specs.Rules.{start, IsComplete}
use Rattle.pebble_rules.specs.declared.moves.Move.{Move}

-- a complete pebbling from the start exists
abbrev pub IsPossible : PebbleGame → Type 0
IsPossible g = (ms : List Move) × IsComplete g (start g) ms

-- with at least one slot, a complete pebbling exists exactly where there are more slots than the degree
abbrev pub PossibleAboveDegree : Type 0
PossibleAboveDegree =
    (g : PebbleGame) → IsDag g.dag → 0 < g.slots
    → (g.slots ≤ degree g.dag → (ms : List Move) → IsComplete g (start g) ms → ⊥) × (degree g.dag < g.slots → IsPossible g)
