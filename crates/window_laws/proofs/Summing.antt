-- The bounds of windows with valid tables add up.
use Rattle.std.proofs.Common.{List, [], ◌∷◌}
use Rattle.comp_graph.specs.Games.{PebbleGame}
use Rattle.window_game.specs.Bounds.{AreWindows, AreBoundsIn, BoundsAddUp}
use Rattle.window_laws.specs.Proofs.{WindowTable, AreProofs, windows_of, bounds_of, ProofsBoundPebblings}
use Rattle.window_laws.proofs.Rows.{tables_bound_windows}

are_windows : (g : PebbleGame) (xs : List WindowTable) → AreProofs g xs → AreWindows g (windows_of xs)
are_windows g [] all = tt
are_windows g (x ∷ xs) all = (all.0.window, are_windows g xs all.1)

are_bounds : (g : PebbleGame) (xs : List WindowTable) → AreProofs g xs → AreBoundsIn g (windows_of xs) (bounds_of xs)
are_bounds g [] all = tt
are_bounds g (x ∷ xs) all = (tables_bound_windows g x.window all.0.window x.renamings all.0.automorphisms x.rows x.bound all.0.valid, are_bounds g xs all.1)

pub proofs_bound_pebblings : BoundsAddUp → ProofsBoundPebblings
proofs_bound_pebblings sums g dag xs all apart ms complete = sums g dag (windows_of xs) (are_windows g xs all) apart (bounds_of xs) (are_bounds g xs all) ms complete
