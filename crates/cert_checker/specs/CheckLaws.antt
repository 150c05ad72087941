-- The laws of checked tables.
use Rattle.std.specs.Prelude.{◌≤◌, List}
use Rattle.comp_graph.specs.Dags.{IsDag}
use Rattle.comp_graph.specs.Games.{PebbleGame}
use Rattle.pebble_rules.specs.Rules.{start, IsComplete, cost}
use Rattle.pebble_rules.specs.declared.moves.Move.{Move}
use Rattle.potential_cert.specs.Table.{TableParts}
use Rattle.potential_cert.specs.GameTables.{IsTableOf}

-- the bound of a table of the game is at most the cost of each complete pebbling
abbrev pub TableBoundsPebblings : Type 0
TableBoundsPebblings = (g : PebbleGame) → IsDag g.dag → (t : TableParts) → IsTableOf g t → (ms : List Move) → IsComplete g (start g) ms → t.bound ≤ cost g ms
