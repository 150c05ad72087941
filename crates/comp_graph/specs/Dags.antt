-- A computation graph as the game sees it: the predecessors of each vertex, the inputs and the outputs; live vertices and the degree.
use Rattle.std.specs.Prelude.{◌≡◌, ℕ, zero, suc, ◌<◌, ◌≤◌, ◌↔◌, ◌⊎◌, Bool, cond, ◌&&◌, ◌||◌}
use Rattle.std.specs.FinSet as set
use Rattle.comp_graph.specs.Vertices.{Vertices, ◌∈◌, size, any_below, greatest_below, set_below}

-- the vertices are the numbers below the count; `preds v` are the immediate predecessors of v
pub record Dag : Type 0 where
  pub count : ℕ
  pub preds : ℕ → Vertices
  pub inputs : Vertices
  pub outputs : Vertices

-- predecessors lie below their vertex, an input has none, and inputs and outputs are vertices
pub record IsDag (d : Dag) : Type 0 where
  pub preds_below : (v w : ℕ) → w ∈ d.preds v → w < v
  pub inputs_are_vertices : (v : ℕ) → v ∈ d.inputs → v < d.count
  pub outputs_are_vertices : (v : ℕ) → v ∈ d.outputs → v < d.count
  pub inputs_have_no_preds : (v : ℕ) → v ∈ d.inputs → d.preds v ≡ set.empty

-- a path from v to u, each edge from a predecessor to its vertex
pub data IsPath (d : Dag) : ℕ → ℕ → Type 0 where
  here : {v : ℕ} → IsPath d v v
  edge : {v u : ℕ} (w : ℕ) → w < d.count → v ∈ d.preds w → IsPath d w u → IsPath d v u

-- a vertex is live if it is an output, or a path leads from it to one
pub record IsLive (d : Dag) (v : ℕ) : Type 0 where
  pub output : ℕ
  pub is_output : output ∈ d.outputs
  pub path : IsPath d v output

-- the members are the live vertices
pub record IsLiveSet (d : Dag) (live : Vertices) : Type 0 where
  pub members : (v : ℕ) → (v ∈ live) ↔ IsLive d v

-- the greatest number of predecessors of a live vertex, and 0 if there is none
pub record IsDegree (d : Dag) (k : ℕ) : Type 0 where
  pub bounds : (v : ℕ) → IsLive d v → size (d.preds v) ≤ k
  pub is_met : (k ≡ 0) ⊎ ((v : ℕ) × IsLive d v × (size (d.preds v) ≡ k))

-- ---- the same as functions, which the laws show equal to the above

-- a path of at most k edges leads from v to an output
abbrev pub leads_to_output : Dag → ℕ → ℕ → Bool
leads_to_output d zero v = set.contains d.outputs v
leads_to_output d (suc k) v =
    set.contains d.outputs v || any_below d.count (λ w. set.contains (d.preds w) v && leads_to_output d k w)

-- whether v is live: no path has as many edges as there are vertices
abbrev pub is_live : Dag → ℕ → Bool
is_live d v = leads_to_output d d.count v

-- the set of the live vertices
abbrev pub live_of : Dag → Vertices
live_of d = set_below (is_live d) d.count

-- the degree
abbrev pub degree : Dag → ℕ
degree d = greatest_below d.count (λ v. cond (is_live d v) (size (d.preds v)) 0)
