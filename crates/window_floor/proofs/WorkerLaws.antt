-- What the loop over the vertices finds of the workers.
use Rattle.std.proofs.Common.{◌≡◌, ℕ, true, not, length, sym, subst, leb, arith}
use Rattle.std.specs.FinSet.{contains}
use Rattle.comp_graph.specs.Vertices.{Vertices, ◌∈◌, AllBelow, size}
use Rattle.comp_graph.specs.Dags.{is_live}
use Rattle.comp_graph.specs.Graphs.{IsGraph}
use Rattle.comp_graph.specs.Games.{PebbleGame, GameParts, game_of}
use Rattle.comp_graph.proofs.DagLaws.{both, and-true, live_vertex}
use Rattle.comp_graph.proofs.Sets.{in_set_below, set_below_parts, AllBelow-set_below}
use Rattle.comp_graph.proofs.GraphLaws.{IsDag-dag_of}
use Rattle.forced_bounds.proofs.Paths.{not_true, true_not}
use Rattle.normal_steps.proofs.Workable.{leb_true, true_leb}
use Rattle.window_game.specs.Windows.{Window, sees}
use Rattle.window_laws.specs.Entry.{IsWorker, held_for}
use Rattle.window_floor.specs.Workers.{AreWorkers, is_worker, workers_of, WorkersAreTested}

pub worker_true : (g : PebbleGame) (w : Window) (u : ℕ) → is_worker g w u ≡ true → IsWorker g w u
worker_true g w u h =
    let a = both (sees g w u) _ h in
    let b = both (is_live g.dag u) _ a.1 in
    let c = both (not (contains g.dag.inputs u)) (leb (size (held_for g u)) g.slots) b.1 in
    record { seen = a.0; live = b.0; no_input = not_true _ c.0; fits = leb_true _ _ c.1 }

pub true_worker : (g : PebbleGame) (w : Window) (u : ℕ) → IsWorker g w u → is_worker g w u ≡ true
true_worker g w u is =
    and-true _ _ is.seen (and-true _ _ is.live (and-true _ _ (true_not _ is.no_input) (true_leb _ _ is.fits)))

pub workers_are_tested : WorkersAreTested
workers_are_tested g dag w u = (
  λ h. worker_true g w u (set_below_parts g.dag.count (is_worker g w) u h).1,
  λ is. in_set_below g.dag.count (is_worker g w) u (live_vertex g.dag dag u is.live) (true_worker g w u is),
)

pub are_workers : (g : GameParts) → IsGraph g.graph → (w : Window) (s : Vertices) → s ≡ workers_of (game_of g) w → AreWorkers (game_of g) w s
are_workers g ok w s e = subst (AreWorkers (game_of g) w) (sym e) (workers_are_tested (game_of g) (IsDag-dag_of g.graph ok) w)

pub workers_bounded : (g : GameParts) → IsGraph g.graph → (w : Window) (s : Vertices) → s ≡ workers_of (game_of g) w → AllBelow 256 s
workers_bounded g ok w s e = record {
  below = λ v h.
      let l = (AllBelow-set_below (is_worker (game_of g) w) (length g.graph.nodes)).below v (subst (λ t. v ∈ t) e h) in
      let small = ok.small in
      omega arith;
}
