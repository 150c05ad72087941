-- Tables of positions with costs, where a step may name a row that covers the position to which it leads; and the bound that they support.
-- They are this project's own.
use Rattle.std.specs.Prelude.{◌≡◌, ◌⊎◌, ℕ, ◌+◌, ◌≤◌, ◌<◌, List, [], ◌∷◌, map, length, ⊤}
use Rattle.comp_graph.specs.Games.{PebbleGame}
use Rattle.pebble_rules.specs.Rules.{start}
use Rattle.pebble_rules.specs.declared.position.Position.{Position}
use Rattle.normal_steps.specs.Steps.{stepped, step_cost}
use Rattle.normal_steps.specs.Sound.{IsSound}
use Rattle.normal_steps.specs.StepTests.{legal_steps}
use Rattle.normal_steps.specs.declared.step.Step.{Step}
use Rattle.normal_steps.specs.declared.step.Step.TheVariants.{Work, Drop, Spill}
use Rattle.comp_graph.specs.Lists.{IsIn}
use Rattle.forced_bounds.specs.Floor.{floor}
use Rattle.potential_cert.specs.declared.tables.Row.{Row}
use Rattle.potential_cert.specs.Table.{HasRow, HasRowWithin, IsRising, offer, FinishHolds}
use Rattle.potential_cert.specs.Order.{precedes}
use Rattle.cover_cert.specs.Covers.{Covers}
use Rattle.potential_cert.specs.Places.{IsAt}
use Rattle.cover_cert.specs.declared.tables.Cover.{Cover}

-- a position, a cost, and the names of some of its steps
pub record CoverRowParts : Type 0 where
  pub position : Position
  pub cost : ℕ
  pub names : List Cover

-- the row without its names
abbrev pub plain : CoverRowParts → Row
plain r = record { position = r.position; cost = r.cost }

-- the rows without their names
abbrev pub plain_rows : List CoverRowParts → List Row
plain_rows rows = map plain rows

-- a row without names
abbrev pub without_names : Row → CoverRowParts
without_names r = record { position = r.position; cost = r.cost; names = [] }

-- the step at place k has a name
abbrev pub IsNamed : List Cover → ℕ → Type 0
IsNamed names k = (n : Cover) × IsIn n names × (n.step ≡ k)

-- the places of the names strictly rise
abbrev pub PlacesRise : List Cover → Type 0
PlacesRise [] = ⊤
PlacesRise (n ∷ ns) = ((m : Cover) → IsIn m ns → n.step < m.step) × PlacesRise ns

-- Work and Spill can have a name; a Drop leads to a position that its own row covers, so its name would show nothing
abbrev pub CanBeNamed : Step → Type 0
CanBeNamed (Work v) = ⊤
CanBeNamed (Drop u) = ⊥
CanBeNamed (Spill u) = ⊤

-- the row with this number covers the position to which the step leads, at no more than the cost there
pub record IsCoveredBy (g : PebbleGame) (rows : List CoverRowParts) (r : CoverRowParts) (s : Step) (number : ℕ) : Type 0 where
  pub can_be_named : CanBeNamed s
  pub row : CoverRowParts
  pub at : IsAt row number rows
  pub covers : Covers g row.position (stepped g r.position s)
  pub costs : row.cost ≤ r.cost + step_cost g r.position s

-- the names of a row: their places rise, at each stands a legal step that is no Drop, and the row named covers where it leads at no greater
-- cost
pub record NamesHold (g : PebbleGame) (rows : List CoverRowParts) (r : CoverRowParts) : Type 0 where
  pub rise : PlacesRise r.names
  pub below : (n : Cover) → IsIn n r.names → n.step < length (legal_steps g r.position)
  pub covered : (n : Cover) → IsIn n r.names → (s : Step) → IsAt s n.step (legal_steps g r.position) → IsCoveredBy g rows r s n.row

-- the step leads to a row that costs no more than the cost there, or the bound is at most what it offers
abbrev pub StepHolds : PebbleGame → List CoverRowParts → ℕ → CoverRowParts → Step → Type 0
StepHolds g rows bound r s = HasRowWithin (plain_rows rows) (stepped g r.position s) (r.cost + step_cost g r.position s) ⊎ (bound ≤ offer g (plain r) s)

-- so it is with each legal step without a name
abbrev pub StepsHold : PebbleGame → List CoverRowParts → ℕ → CoverRowParts → Type 0
StepsHold g rows bound r =
    (k : ℕ) (s : Step) → IsAt s k (legal_steps g r.position) → (IsNamed r.names k → ⊥) → StepHolds g rows bound r s

-- some row costs nothing
abbrev pub HasFreeRow : List CoverRowParts → Type 0
HasFreeRow rows = (r : CoverRowParts) × IsIn r rows × (r.cost ≡ 0)

-- the bound is at most the floor of the start, or some row costs nothing: each position with the inputs blue covers the start
abbrev pub StartHolds : PebbleGame → List CoverRowParts → ℕ → Type 0
StartHolds g rows bound = (bound ≤ floor g (start g)) ⊎ HasFreeRow rows

-- the rows, their names and the bound are valid: they prove that no play that finishes costs less than the bound
pub record IsCoverTable (g : PebbleGame) (rows : List CoverRowParts) (bound : ℕ) : Type 0 where
  pub rise : IsRising precedes (plain_rows rows)
  pub sound : (r : CoverRowParts) → IsIn r rows → IsSound g r.position
  pub starts : StartHolds g rows bound
  pub names : (r : CoverRowParts) → IsIn r rows → NamesHold g rows r
  pub steps : (r : CoverRowParts) → IsIn r rows → StepsHold g rows bound r
  pub finishes : (r : CoverRowParts) → IsIn r rows → FinishHolds g bound (plain r)

-- a step without a name from a row to a position that is no row
pub record IsLeavingUnnamed (g : PebbleGame) (rows : List CoverRowParts) (r : CoverRowParts) (k : ℕ) (s : Step) : Type 0 where
  pub row : IsIn r rows
  pub at : IsAt s k (legal_steps g r.position)
  pub no_name : IsNamed r.names k → ⊥
  pub leaves : HasRow (plain_rows rows) (stepped g r.position s) → ⊥

-- an offer of such a step
abbrev pub IsOffered : PebbleGame → List CoverRowParts → ℕ → Type 0
IsOffered g rows n = (r : CoverRowParts) × (k : ℕ) × (s : Step) × IsLeavingUnnamed g rows r k s × (n ≡ offer g (plain r) s)

-- `least` is the least of the cost and of the offers of all steps without a name that leave the rows, and with no row of the cost and the
-- floor of the start
pub record IsCoverSupport (g : PebbleGame) (rows : List CoverRowParts) (cost least : ℕ) : Type 0 where
  pub within_cost : least ≤ cost
  pub within_floor : rows ≡ [] → least ≤ floor g (start g)
  pub within_offers : (n : ℕ) → IsOffered g rows n → least ≤ n
  pub is_met : (least ≡ cost) ⊎ (((rows ≡ []) × (least ≡ floor g (start g))) ⊎ IsOffered g rows least)

-- ---- a table with its numbers

-- the numbers of vertices and slots, the weights of a load and a store, the bound, and the rows
pub record CoverTableParts : Type 0 where
  pub slots : ℕ
  pub vertices : ℕ
  pub load : ℕ
  pub store : ℕ
  pub bound : ℕ
  pub rows : List CoverRowParts

-- the table is one of the game's graph, slots and weights, and its rows with their names are valid with its bound
pub record IsCoverTableOf (g : PebbleGame) (t : CoverTableParts) : Type 0 where
  pub vertices : t.vertices ≡ g.dag.count
  pub slots : t.slots ≡ g.slots
  pub load : t.load ≡ g.load
  pub store : t.store ≡ g.store
  pub holds : IsCoverTable g t.rows t.bound
