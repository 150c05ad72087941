-- Laws of graphs that calls of this crate carry.
use Rattle.std.specs.Prelude.{◌≡◌, ℕ, ◌↔◌, true}
use Rattle.comp_graph.specs.Graphs.{GraphParts, IsGraph, dag_of}
use Rattle.comp_graph.specs.Dags.{Dag, IsDag, IsLive, IsDegree, is_live, degree}

-- the test of live vertices says what the paths say
abbrev pub LiveByPaths : Type 0
LiveByPaths = (d : Dag) → IsDag d → (v : ℕ) → (is_live d v ≡ true) ↔ IsLive d v

-- the degree is the greatest number of predecessors of a live vertex
abbrev pub DegreeIsGreatest : Type 0
DegreeIsGreatest = (d : Dag) → IsDag d → IsDegree d (degree d)

-- what a graph holds is a graph as the game sees it, so the laws of those hold for it
abbrev pub GraphsAreDags : Type 0
GraphsAreDags = (g : GraphParts) → IsGraph g → IsDag (dag_of g)
