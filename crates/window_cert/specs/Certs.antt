-- Certificates by windows: windows of a game, each with renamings, a table of its positions and a bound. They are this project's own.
use Rattle.std.specs.Prelude.{ℕ, List}
use Rattle.comp_graph.specs.Vertices.{Vertices}
use Rattle.potential_cert.specs.declared.tables.Row.{Row}
use Rattle.window_cert.specs.declared.charged.ChargedLoads.{ChargedLoads}
use Rattle.window_cert.specs.declared.charged.ChargedLoads.TheVariants as loads

-- the charged loads: for each vertex the operands whose load by its Work is charged; all loads of tracked values; or all loads of tracked
-- values by a set of operations
pub data ChargedParts : Type 0 where
  each : List Vertices → ChargedParts
  of_tracked : ChargedParts
  by_works : Vertices → ChargedParts

abbrev pub charged_of : ChargedLoads → ChargedParts
charged_of (loads.Each sets) = each sets.items
charged_of loads.OfTracked = of_tracked
charged_of (loads.By works) = by_works works

-- a window, its renamings as lists of images, the bound and the rows of its table
pub record WindowParts : Type 0 where
  pub charged : ChargedParts
  pub stores : Vertices
  pub tracked : Vertices
  pub required : Vertices
  pub renamings : List (List ℕ)
  pub bound : ℕ
  pub rows : List Row

-- the numbers of vertices and slots, the weights of a load and a store, the sum of the bounds, and the windows
pub record CertParts : Type 0 where
  pub vertices : ℕ
  pub slots : ℕ
  pub load : ℕ
  pub store : ℕ
  pub bound : ℕ
  pub windows : List WindowParts

-- the numbers of a certificate, without its windows
pub record Numbers : Type 0 where
  pub vertices : ℕ
  pub slots : ℕ
  pub load : ℕ
  pub store : ℕ
  pub bound : ℕ

abbrev pub numbers_of : CertParts → Numbers
numbers_of c = record { vertices = c.vertices; slots = c.slots; load = c.load; store = c.store; bound = c.bound }
