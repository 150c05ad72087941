-- Windows of a game, this project's own. A window charges some of the loads and stores of the game and tracks the pebbles of some
-- vertices. All other loads and stores are free, but operands and results still take their slots while a vertex is worked on.
use Rattle.std.specs.Prelude.{◌≡◌, ℕ, Bool, true, ◌||◌, nat_lt}
use Rattle.std.specs.FinSet as set
use Rattle.comp_graph.specs.Vertices.{Vertices, ◌∈◌, IsWithin, IsOutside, size}
use Rattle.comp_graph.specs.Dags.{is_live, live_of}
use Rattle.comp_graph.specs.Games.{PebbleGame}

-- for each vertex v the operands whose load by Work(v) is charged; the vertices whose store is charged; the vertices whose pebbles
-- the window tracks; the vertices that each play of the window has to work on
pub record Window : Type 0 where
  pub loads : ℕ → Vertices
  pub stores : Vertices
  pub tracked : Vertices
  pub required : Vertices

-- charged loads are of tracked operands, and charged stores of tracked vertices; a required vertex is live, is no input, and its store
-- is not charged
pub record IsWindow (g : PebbleGame) (w : Window) : Type 0 where
  pub loads_read : (v : ℕ) → IsWithin (w.loads v) (g.dag.preds v)
  pub loads_tracked : (v : ℕ) → IsWithin (w.loads v) w.tracked
  pub stores_tracked : IsWithin w.stores w.tracked
  pub required_live : (v : ℕ) → v ∈ w.required → is_live g.dag v ≡ true
  pub required_computed : IsOutside w.required g.dag.inputs
  pub required_uncharged : IsOutside w.required w.stores

-- the vertices that are blue as soon as they have been worked on, because their store is not charged
abbrev pub kept : Window → Vertices
kept w = set.union w.required (set.difference w.tracked w.stores)

-- the vertices that can have a pebble in the window
abbrev pub known : Window → Vertices
known w = set.union w.tracked w.required

-- the window shows Work(v): v can have a pebble there, or an operand of v is tracked
abbrev pub sees : PebbleGame → Window → ℕ → Bool
sees g w v = set.contains (known w) v || nat_lt 0 (size (set.intersection (g.dag.preds v) w.tracked))

-- the whole graph as a window: it tracks all live vertices, charges all loads and stores of them, and requires nothing
abbrev pub whole : PebbleGame → Window
whole g = record {
  loads = λ v. set.intersection (g.dag.preds v) (live_of g.dag);
  stores = live_of g.dag;
  tracked = live_of g.dag;
  required = set.empty;
}
