-- The parts of the test of an automorphism of a window, this project's own.
use Rattle.std.specs.Prelude.{◌≡◌, ℕ}
use Rattle.std.specs.FinSet as set
use Rattle.comp_graph.specs.Vertices.{Vertices, ◌∈◌, size}
use Rattle.comp_graph.specs.Games.{PebbleGame}
use Rattle.window_game.specs.Windows.{Window, known}
use Rattle.window_laws.specs.Entry.{held_for}
use Rattle.window_laws.specs.Images.{Renaming, IsImage}

-- the renaming keeps the tracked and the required vertices, the charged stores, the tracked inputs and the tracked outputs
pub record KeepsSets (g : PebbleGame) (w : Window) (r : Renaming) : Type 0 where
  pub tracked : IsImage r w.tracked w.tracked
  pub required : IsImage r w.required w.required
  pub stores : IsImage r w.stores w.stores
  pub inputs : IsImage r (set.intersection g.dag.inputs w.tracked) (set.intersection g.dag.inputs w.tracked)
  pub outputs : IsImage r (set.intersection g.dag.outputs w.tracked) (set.intersection g.dag.outputs w.tracked)

-- the operands and the charged loads of x are the images of those of v, and as many vertices that are not tracked are among x and
-- its operands
pub record IsLike (g : PebbleGame) (w : Window) (r : Renaming) (v x : ℕ) : Type 0 where
  pub operands : IsImage r (set.intersection (g.dag.preds v) (known w)) (set.intersection (g.dag.preds x) (known w))
  pub loads : IsImage r (w.loads v) (w.loads x)
  pub rest : size (set.difference (held_for g x) w.tracked) ≡ size (set.difference (held_for g v) w.tracked)

-- v goes to such a vertex, which is in the set of workers
pub record KeepsWork (g : PebbleGame) (w : Window) (workers : Vertices) (r : Renaming) (v : ℕ) : Type 0 where
  pub worker : r.there v ∈ workers
  pub like : IsLike g w r v (r.there v)
