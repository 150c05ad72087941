-- What the passes of the floor find.
use Rattle.std.specs.Prelude.{ℕ}
use Rattle.comp_graph.specs.Vertices.{Vertices, ◌∈◌, IsOutside}
use Rattle.comp_graph.specs.Dags.{Dag}
use Rattle.forced_bounds.specs.Least.{IsLeastClosed, HoldsCone}

-- the vertices from which a path outside `avoid` leads to v, and none of them is in `met`
pub record IsFreeCone (g : Dag) (v : ℕ) (avoid met cone : Vertices) : Type 0 where
  pub least : IsLeastClosed (HoldsCone g avoid v) cone
  pub free : IsOutside cone met

-- a path outside `avoid` leads to v from a member of `met`
pub record IsMetCone (g : Dag) (v : ℕ) (avoid met : Vertices) : Type 0 where
  pub vertex : ℕ
  pub is_met : vertex ∈ met
  pub reached : (s : Vertices) → HoldsCone g avoid v s → vertex ∈ s
