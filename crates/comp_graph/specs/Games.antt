-- The game on a graph: the number of slots, and what a load and a store cost.
use Rattle.std.specs.Prelude.{ℕ, ◌<◌, ◌≤◌}
use Rattle.comp_graph.specs.declared.costs.Weights.{Weights}
use Rattle.comp_graph.specs.Dags.{Dag, degree}
use Rattle.comp_graph.specs.Graphs.{GraphParts, IsGraph, dag_of}

-- the red-blue pebble game: a graph, the number of red pebbles, and the weights of a load and a store
pub record PebbleGame : Type 0 where
  pub dag : Dag
  pub slots : ℕ
  pub load : ℕ
  pub store : ℕ

-- the game on a graph with this many slots and these weights
abbrev pub game_on : GraphParts → ℕ → Weights → PebbleGame
game_on g slots weights = record { dag = dag_of g; slots = slots; load = weights.load; store = weights.store }

-- the weights of 1981: a load and a store cost 1
abbrev pub unit_weights : Weights
unit_weights = record { load = 1; store = 1 }

-- a graph with a number of slots and weights
pub record GameParts : Type 0 where
  pub graph : GraphParts
  pub slots : ℕ
  pub weights : Weights

-- the game that they are
abbrev pub game_of : GameParts → PebbleGame
game_of g = game_on g.graph g.slots g.weights

-- a load and a store cost from 1 to 16
pub record AreWeights (w : Weights) : Type 0 where
  pub load_some : 0 < w.load
  pub load_most : w.load ≤ 16
  pub store_some : 0 < w.store
  pub store_most : w.store ≤ 16

-- from 1 to 64 slots, more than the degree, and weights from 1 to 16
pub record IsGame (g : GameParts) : Type 0 where
  pub valid : IsGraph g.graph
  pub most : g.slots ≤ 64
  pub room : degree (dag_of g.graph) < g.slots
  pub weights : AreWeights g.weights
