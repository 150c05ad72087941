-- What makes sets a window, in the parts that the calls test.
use Rattle.std.specs.Prelude.{◌≡◌, ℕ, true}
use Rattle.std.specs.FinSet as set
use Rattle.comp_graph.specs.Vertices.{◌∈◌, IsWithin, IsOutside}
use Rattle.comp_graph.specs.Dags.{is_live}
use Rattle.comp_graph.specs.Games.{PebbleGame}
use Rattle.window_game.specs.Windows.{Window}

-- charged loads are of tracked operands
abbrev pub AreLoads : PebbleGame → Window → Type 0
AreLoads g w = (v : ℕ) → IsWithin (w.loads v) (set.intersection (g.dag.preds v) w.tracked)

-- each required vertex is live, no input, and its store is not charged
pub record AreRequired (g : PebbleGame) (w : Window) : Type 0 where
  pub live : (v : ℕ) → v ∈ w.required → is_live g.dag v ≡ true
  pub computed : IsOutside w.required g.dag.inputs
  pub uncharged : IsOutside w.required w.stores
