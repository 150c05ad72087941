-- Which vertices the first plan works on, and which of these reads a vertex next. This project's convention.
use Rattle.std.specs.Prelude.{ℕ, Bool, not, ◌&&◌, nat_lt}
use Rattle.std.specs.FinSet as set
use Rattle.comp_graph.specs.Vertices.{Vertices, set_below}
use Rattle.comp_graph.specs.Dags.{Dag, is_live}
use Rattle.first_plan.specs.Passing.{least_passing}

-- the plan works on v: v is live and no input
unfoldable pub is_planned : Dag → ℕ → Bool
is_planned d v = is_live d v && not (set.contains d.inputs v)

-- the vertices that the plan works on
abbrev pub planned_of : Dag → Vertices
planned_of d = set_below (is_planned d) d.count

-- the plan works on w after v, and w reads u
abbrev pub is_later_use : Dag → ℕ → ℕ → ℕ → Bool
is_later_use d v u w = nat_lt v w && (is_planned d w && set.contains (d.preds w) u)

-- the next use of u after Work(v): the least such w; if there is none, the number of vertices, which is further than each of them
unfoldable pub next_use : Dag → ℕ → ℕ → ℕ
next_use d v u = least_passing d.count (is_later_use d v u)

-- u has a next use after Work(v)
abbrev pub is_used_later : Dag → ℕ → ℕ → Bool
is_used_later d v u = nat_lt (next_use d v u) d.count
