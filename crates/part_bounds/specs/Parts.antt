-- The parts of a graph, this project's own: the vertices that are no inputs are cut into runs of about equal length, and an input goes to
-- the part of the first vertex that reads it.
use Rattle.std.specs.Prelude.{◌≡◌, ℕ, ◌≤◌, ◌<◌, ◌-◌, ◌*◌, ◌/◌, cond, nat_eq, nat_lt, List, [], ◌∷◌, length, slice_index_or}
use Rattle.comp_graph.specs.Vertices.{Vertices, set_below, rising}
use Rattle.comp_graph.specs.Graphs.{GraphParts, dag_of}
use Rattle.comp_graph.specs.Games.{PebbleGame, GameParts, game_of}
use Rattle.first_plan.specs.Ready.{readers_of}
use Rattle.part_bounds.specs.Cuts.{cut_game}

-- the part of vertex v that is no input
abbrev pub run_of : GraphParts → ℕ → ℕ → ℕ
run_of g parts v = ((v - length g.names) * parts) / (length g.nodes - length g.names)

-- the vertices that read u, in rising number
abbrev pub rising_readers : GraphParts → ℕ → List ℕ
rising_readers g u = rising (length g.nodes) (readers_of (dag_of g) u)

-- the first of them, which is no input
pub record IsFirstReader (g : GraphParts) (u w : ℕ) : Type 0 where
  pub others : List ℕ
  pub first : rising_readers g u ≡ w ∷ others
  pub no_input : length g.names ≤ w
  pub vertex : w < length g.nodes

-- the part of the first of these vertices, and part 0 if there is none
abbrev pub run_of_first : GraphParts → ℕ → List ℕ → ℕ
run_of_first g parts [] = 0
run_of_first g parts (w ∷ ws) = run_of g parts w

-- the part of a vertex, of so many parts
abbrev pub part_of : GraphParts → ℕ → ℕ → ℕ
part_of g parts v = cond (nat_lt v (length g.names)) (run_of_first g parts (rising_readers g v)) (run_of g parts v)

-- the vertices of part k
abbrev pub part : GraphParts → ℕ → ℕ → Vertices
part g parts k = set_below (λ v. nat_eq (part_of g parts v) k) (length g.nodes)

-- the vertices of each of so many parts
pub record ArePartSets (g : GraphParts) (parts : ℕ) (sets : List Vertices) : Type 0 where
  pub count : length sets ≡ parts
  pub each : (k : ℕ) → k < parts → (other : Vertices) → slice_index_or sets k other ≡ part g parts k

-- the game on part k
abbrev pub part_game : GameParts → ℕ → ℕ → PebbleGame
part_game g parts k = cut_game (game_of g) (part g.graph parts k)
