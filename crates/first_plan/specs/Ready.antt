-- What holds before the turn of each vertex, and what the calls keep to find next uses.
use Rattle.std.specs.Prelude.{◌≡◌, ℕ, ◌<◌, ◌≤◌, ◌⊎◌, ◌&&◌, nat_lt, true, List, length, slice_index_or}
use Rattle.std.specs.FinSet as set
use Rattle.comp_graph.specs.Vertices.{Vertices, ◌∈◌, set_below}
use Rattle.comp_graph.specs.Dags.{Dag, is_live}
use Rattle.comp_graph.specs.Games.{PebbleGame}
use Rattle.pebble_rules.specs.declared.position.Position.{Position}
use Rattle.normal_steps.specs.Sound.{IsSound}
use Rattle.first_plan.specs.NextUses.{is_planned}

-- a vertex from n on that the plan works on reads x
pub record IsReadFrom (d : Dag) (n x : ℕ) : Type 0 where
  pub reader : ℕ
  pub late : n ≤ reader
  pub planned : is_planned d reader ≡ true
  pub reads : x ∈ d.preds reader

-- a position before the turn of n: it is sound, the red vertices lie below n, and each live vertex below n that is an output or will be
-- read has a pebble
pub record IsReady (g : PebbleGame) (n : ℕ) (p : Position) : Type 0 where
  pub sound : IsSound g p
  pub red_before : (x : ℕ) → x ∈ p.red → x < n
  pub held : (x : ℕ) → x < n → is_live g.dag x ≡ true → (x ∈ g.dag.outputs) ⊎ IsReadFrom g.dag n x → x ∈ set.union p.red p.blue

-- the vertices that read u
abbrev pub readers_of : Dag → ℕ → Vertices
readers_of d u = set_below (λ w. set.contains (d.preds w) u) d.count

-- the readers of each vertex
pub record AreReaders (d : Dag) (readers : List Vertices) : Type 0 where
  pub count : length readers ≡ d.count
  pub each : (u : ℕ) → u < d.count → (other : Vertices) → slice_index_or readers u other ≡ readers_of d u

-- the vertices after v that the plan works on
pub record AreAhead (d : Dag) (v : ℕ) (ahead : Vertices) : Type 0 where
  pub members : (w : ℕ) → set.contains ahead w ≡ (nat_lt v w && is_planned d w)

-- what is known at the turn of v: the plan works on it, and the readers and the vertices ahead are these
pub record IsTurn (d : Dag) (v : ℕ) (readers : List Vertices) (ahead : Vertices) : Type 0 where
  pub planned : is_planned d v ≡ true
  pub reads : AreReaders d readers
  pub after : AreAhead d v ahead
