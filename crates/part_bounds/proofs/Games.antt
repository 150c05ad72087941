-- The game on a part is never too small.
use Rattle.std.proofs.Common.{◌≡◌, ℕ, ◌≤◌, ◌<◌, true, ◌⊎◌, inl, inr, ap, arith}
use Rattle.comp_graph.specs.Vertices.{Vertices, AllBelow}
use Rattle.comp_graph.specs.Dags.{Dag, IsDag, IsPath, here, edge, is_live, degree}
use Rattle.comp_graph.specs.Graphs.{dag_of}
use Rattle.comp_graph.specs.Games.{PebbleGame}
use Rattle.comp_graph.proofs.DagLaws.{live_by_paths, degree_bounds, degree_some}
use Rattle.comp_graph.proofs.GraphLaws.{IsDag-dag_of}
use Rattle.comp_graph.proofs.Sets.{AllBelow-set_below}
use Rattle.part_bounds.specs.Cuts.{vertex_at, cut_dag}
use Rattle.part_bounds.specs.Parts.{part}
use Rattle.part_bounds.specs.Laws.{GamesAreInduced, PartsAreGames}
use Rattle.part_bounds.proofs.Places.{is_at, cut_vertex, size_cut}
use Rattle.part_bounds.proofs.Cutting.{cuts_are_dags}
use Rattle.part_bounds.proofs.CutGraphs.{graphs_are_induced}

module _ (d : Dag) (dag : IsDag d) (s : Vertices) (below : AllBelow d.count s) where
  -- a path in the part is one in the graph
  path_of : {v u : ℕ} → IsPath (cut_dag d s) v u → IsPath d (vertex_at s d.count v) (vertex_at s d.count u)
  path_of here = here
  path_of (edge w less member rest) = edge (vertex_at s d.count w) (is_at s d.count w less).below (cut_vertex s d.count _ _ member) (path_of rest)

  -- a live vertex of the part is live in the graph
  live_of_cut : (v : ℕ) → is_live (cut_dag d s) v ≡ true → is_live d (vertex_at s d.count v) ≡ true
  live_of_cut v h =
      let live = (live_by_paths (cut_dag d s) (cuts_are_dags d dag s below) v).0 h in
      (live_by_paths d dag (vertex_at s d.count v)).1 (record {
        output = vertex_at s d.count live.output;
        is_output = cut_vertex s d.count d.outputs live.output live.is_output;
        path = path_of live.path;
      })

  none_or_some : (n : ℕ) → (n ≡ 0) ⊎ (0 < n)
  none_or_some n = grind arith

  pub degree_cut : degree (cut_dag d s) ≤ degree d
  degree_cut = elim (none_or_some (degree (cut_dag d s))) [
    | inl none ↦ omega arith
    | inr some ↦ (
        let widest = degree_some (cut_dag d s) some in
        let live = live_of_cut widest.0 widest.1 in
        let most = degree_bounds d dag (vertex_at s d.count widest.0) live in
        let less = size_cut s d.count below (d.preds (vertex_at s d.count widest.0)) in
        let is = widest.2 in
        omega arith)
  ]

pub games_are_induced : GamesAreInduced
games_are_induced g game s below =
    let made = graphs_are_induced g.graph game.valid s below in
    record {
      game = record {
        valid = made.graph;
        most = game.most;
        room =
            let less = degree_cut (dag_of g.graph) (IsDag-dag_of g.graph game.valid) s below in
            let same_degree = ap degree made.cut in
            let room = game.room in
            omega arith;
        weights = game.weights;
      };
      cut = ap (λ d. let h : PebbleGame = record { dag = d; slots = g.slots; load = g.weights.load; store = g.weights.store } in h) made.cut;
    }

pub parts_are_games : PartsAreGames
parts_are_games g game parts k = games_are_induced g game (part g.graph parts k) (AllBelow-set_below _ _)
