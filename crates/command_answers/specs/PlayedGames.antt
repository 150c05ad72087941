-- The game that each command plays on a graph: with its slots, and with the costs of a load and a store that are asked for; and that it has
-- a complete pebbling of a cost.
use Rattle.std.specs.Prelude.{◌≡◌, ℕ, List}
use Rattle.comp_graph.specs.declared.costs.Weights.{Weights}
use Rattle.comp_graph.specs.Graphs.{GraphParts}
use Rattle.comp_graph.specs.Games.{GameParts, PebbleGame, game_of}
use Rattle.pebble_rules.specs.declared.moves.Move.{Move}
use Rattle.pebble_rules.specs.Rules.{start, IsComplete, cost as moves_cost}
use Rattle.command_words.specs.declared.commands.Planning.{Planning}

-- a graph with this many slots and these weights
abbrev pub game_parts : GraphParts → ℕ → Weights → GameParts
game_parts graph slots weights = record { graph = graph; slots = slots; weights = weights }

-- the game on a graph with this many slots and these weights
abbrev pub played_on : GraphParts → ℕ → Weights → PebbleGame
played_on graph slots weights = game_of (game_parts graph slots weights)

-- the game that a plan is asked for, on a graph
abbrev pub game_asked : Planning → GraphParts → GameParts
game_asked asked graph = game_parts graph asked.slots asked.weights

-- that game by its rules
abbrev pub played_for : Planning → GraphParts → PebbleGame
played_for asked graph = game_of (game_asked asked graph)

-- there is a complete pebbling of this cost
pub record HasPebbling (game : GameParts) (cost : ℕ) : Type 0 where
  pub moves : List Move
  pub complete : IsComplete (game_of game) (start (game_of game)) moves
  pub costs : moves_cost (game_of game) moves ≡ cost
