-- The vertices whose Works a window can show, this project's own.
use Rattle.std.specs.Prelude.{ℕ, ◌↔◌, Bool, not, ◌&&◌, nat_le}
use Rattle.std.specs.FinSet as set
use Rattle.comp_graph.specs.Vertices.{Vertices, ◌∈◌, set_below, size}
use Rattle.comp_graph.specs.Dags.{IsDag, is_live}
use Rattle.comp_graph.specs.Games.{PebbleGame}
use Rattle.window_game.specs.Windows.{Window, sees}
use Rattle.window_laws.specs.Entry.{IsWorker, held_for}

-- the set has just the vertices whose Works the window can show
abbrev pub AreWorkers : PebbleGame → Window → Vertices → Type 0
AreWorkers g w members = (u : ℕ) → (u ∈ members) ↔ IsWorker g w u

-- the window can show a Work of the vertex
abbrev pub is_worker : PebbleGame → Window → ℕ → Bool
is_worker g w u =
    sees g w u && (is_live g.dag u && (not (set.contains g.dag.inputs u) && nat_le (size (held_for g u)) g.slots))

-- these vertices
abbrev pub workers_of : PebbleGame → Window → Vertices
workers_of g w = set_below (is_worker g w) g.dag.count

-- the set that the test gives is the set of the workers
abbrev pub WorkersAreTested : Type 0
WorkersAreTested = (g : PebbleGame) → IsDag g.dag → (w : Window) → AreWorkers g w (workers_of g w)
