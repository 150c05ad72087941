-- The three sets of a window and the numbers of a certificate, as they are read.
use Rattle.std.specs.Prelude.{ℕ, List, ◌++◌}
use Rattle.comp_graph.specs.Vertices.{AllBelow}
use Rattle.window_cert.specs.declared.reading.ThreeSets.{ThreeSets}
use Rattle.window_cert.specs.Bytes.{set_bytes}

-- the charged stores, the tracked and the required vertices
abbrev pub sets_bytes : ℕ → ThreeSets → List ℕ
sets_bytes n x = set_bytes n x.stores ++ (set_bytes n x.tracked ++ set_bytes n x.required)

pub record SetsFit (n : ℕ) (x : ThreeSets) : Type 0 where
  pub stores : AllBelow n x.stores
  pub tracked : AllBelow n x.tracked
  pub required : AllBelow n x.required
