-- The bound that the inputs and the outputs alone force on the cost of every complete pebbling.
use Rattle.std.specs.Prelude.{◌≤◌, ◌+◌, ◌*◌, ℕ, List, ◌&&◌}
use Rattle.std.specs.FinSet as set
use Rattle.comp_graph.specs.Vertices.{Vertices, size, any_below}
use Rattle.comp_graph.specs.Dags.{IsDag, is_live}
use Rattle.comp_graph.specs.Games.{PebbleGame}
use Rattle.pebble_rules.specs.Rules.{start, IsComplete, cost}
use Rattle.pebble_rules.specs.declared.moves.Move.{Move}

-- the inputs that a live vertex reads: each is loaded at least once
abbrev pub forced_loads : PebbleGame → Vertices
forced_loads g = set.retain g.dag.inputs (λ u. any_below g.dag.count (λ w. set.contains (g.dag.preds w) u && is_live g.dag w))

-- the outputs that are no inputs: each is stored at least once
abbrev pub forced_stores : PebbleGame → Vertices
forced_stores g = set.difference g.dag.outputs g.dag.inputs

-- what the forced loads and stores cost
abbrev pub first_bound : PebbleGame → ℕ
first_bound g = g.store * size (forced_stores g) + g.load * size (forced_loads g)

-- no complete pebbling costs less
abbrev pub FirstBoundHolds : Type 0
FirstBoundHolds = (g : PebbleGame) → IsDag g.dag → (ms : List Move) → IsComplete g (start g) ms → first_bound g ≤ cost g ms
