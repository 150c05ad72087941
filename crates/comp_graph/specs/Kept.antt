-- What a `Graph` keeps beside its lists.
use Rattle.std.specs.Prelude.{◌≡◌, ℕ, ◌<◌, List, length, slice_index}
use Rattle.comp_graph.specs.declared.graph.Graph.TheInside.{Inside}
use Rattle.comp_graph.specs.Dags.{degree, live_of}
use Rattle.comp_graph.specs.Graphs.{GraphParts, IsGraph, dag_of}
use Rattle.comp_graph.specs.Words.{word_of}

-- the first words of the predecessors of the first 64 vertices; since predecessors lie below their vertex, no other word has one
pub record AreNear (g : GraphParts) (near : List ℕ) : Type 0 where
  pub each : (v : ℕ) → v < 64 → v < length g.nodes → slice_index near v ≡ word_of ((dag_of g).preds v) 0

-- the lists are those of a graph, and the rest is what they give
pub record IsKept (a : Inside) : Type 0 where
  pub valid : IsGraph a.lists
  pub near : AreNear a.lists a.near
  pub in_set : a.in_set ≡ (dag_of a.lists).inputs
  pub out_set : a.out_set ≡ (dag_of a.lists).outputs
  pub live : a.live ≡ live_of (dag_of a.lists)
  pub degree_is : a.degree ≡ degree (dag_of a.lists)
