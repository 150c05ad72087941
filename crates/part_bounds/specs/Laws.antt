-- What a pebbling of a game says of the games on its parts.
use Rattle.std.specs.Prelude.{◌≡◌, ℕ, ◌≤◌, ◌<◌, List, length}
use Rattle.std.specs.List.{All}
use Rattle.comp_graph.specs.Vertices.{Vertices, AllBelow, sum_below}
use Rattle.comp_graph.specs.Dags.{Dag, IsDag}
use Rattle.comp_graph.specs.Graphs.{GraphParts, IsGraph, dag_of}
use Rattle.comp_graph.specs.Games.{PebbleGame, GameParts, IsGame, game_of}
use Rattle.pebble_rules.specs.Rules.{start, IsComplete, cost}
use Rattle.pebble_rules.specs.Refusals.{vertex_of}
use Rattle.pebble_rules.specs.declared.moves.Move.{Move}
use Rattle.part_bounds.specs.Cuts.{cut_dag, cut_game, moves_on}
use Rattle.part_bounds.specs.Parts.{part, part_game}
use Rattle.part_bounds.specs.Induced.{induced, induced_game}

-- no complete pebbling costs less
abbrev pub IsBound : PebbleGame → ℕ → Type 0
IsBound g bound = (ms : List Move) → IsComplete g (start g) ms → bound ≤ cost g ms

-- a graph cut to some of its vertices is a graph
abbrev pub CutsAreDags : Type 0
CutsAreDags = (d : Dag) → IsDag d → (s : Vertices) → AllBelow d.count s → IsDag (cut_dag d s)

-- the moves of a complete pebbling on some vertices are a complete pebbling of the game on these vertices
abbrev pub CutsArePebbled : Type 0
CutsArePebbled =
    (g : PebbleGame) → IsDag g.dag → (s : Vertices) → AllBelow g.dag.count s
    → (ms : List Move) → IsComplete g (start g) ms → IsComplete (cut_game g s) (start (cut_game g s)) (moves_on s ms)

-- and so are those on a part
abbrev pub PartsArePebbled : Type 0
PartsArePebbled =
    (g : GameParts) → IsGraph g.graph → (parts k : ℕ)
    → (ms : List Move) → IsComplete (game_of g) (start (game_of g)) ms
    → IsComplete (part_game g parts k) (start (part_game g parts k)) (moves_on (part g.graph parts k) ms)

-- together the moves on the parts cost no more than all moves
abbrev pub PartsCostNoMore : Type 0
PartsCostNoMore =
    (g : GameParts) (parts : ℕ) (ms : List Move)
    → sum_below parts (λ k. cost (part_game g parts k) (moves_on (part g.graph parts k) ms)) ≤ cost (game_of g) ms

-- and just as much, where the moves are on vertices of the graph
abbrev pub PartsCostAll : Type 0
PartsCostAll =
    (g : GameParts) → IsGraph g.graph → (parts : ℕ) → 0 < parts → (ms : List Move) → All (λ m. vertex_of m < length g.graph.nodes) ms
    → sum_below parts (λ k. cost (part_game g parts k) (moves_on (part g.graph parts k) ms)) ≡ cost (game_of g) ms

-- so the sum of bounds for the parts is a bound
abbrev pub SumsAreBounds : Type 0
SumsAreBounds =
    (g : GameParts) → IsGraph g.graph → (parts : ℕ) (bounds : ℕ → ℕ)
    → ((k : ℕ) → k < parts → IsBound (part_game g parts k) (bounds k)) → IsBound (game_of g) (sum_below parts bounds)

-- what is induced is a graph, and as the game sees it the one that is cut
pub record IsInduced (g : GraphParts) (s : Vertices) : Type 0 where
  pub graph : IsGraph (induced g s)
  pub cut : dag_of (induced g s) ≡ cut_dag (dag_of g) s

-- so it is of each graph and each set of its vertices
abbrev pub GraphsAreInduced : Type 0
GraphsAreInduced = (g : GraphParts) → IsGraph g → (s : Vertices) → AllBelow (length g.nodes) s → IsInduced g s

-- the game on some vertices is a game, so it is never too small, and it is the one that is cut
pub record IsInducedGame (g : GameParts) (s : Vertices) : Type 0 where
  pub game : IsGame (induced_game g s)
  pub cut : game_of (induced_game g s) ≡ cut_game (game_of g) s

-- so it is of each game and each set of its vertices
abbrev pub GamesAreInduced : Type 0
GamesAreInduced = (g : GameParts) → IsGame g → (s : Vertices) → AllBelow (length g.graph.nodes) s → IsInducedGame g s

-- and so of each part
abbrev pub PartsAreGames : Type 0
PartsAreGames = (g : GameParts) → IsGame g → (parts k : ℕ) → IsInducedGame g (part g.graph parts k)
