-- The rows that a search has made, and the row that a step names.
use Rattle.std.specs.Prelude.{◌≡◌, ◌⊎◌, ℕ, ◌+◌, ◌≤◌, true, List, map, Option, Some, None}
use Rattle.comp_graph.specs.Games.{PebbleGame}
use Rattle.pebble_rules.specs.declared.position.Position.{Position}
use Rattle.normal_steps.specs.Steps.{stepped, step_cost}
use Rattle.normal_steps.specs.declared.step.Step.{Step}
use Rattle.comp_graph.specs.Lists.{IsIn}
use Rattle.potential_cert.specs.declared.tables.Row.{Row}
use Rattle.potential_cert.specs.Order.{precedes}
use Rattle.cover_cert.specs.declared.tables.Cover.{Cover}
use Rattle.cover_cert.specs.declared.making.Made.{Made}
use Rattle.cover_cert.specs.declared.making.Name.{Name}
use Rattle.cover_cert.specs.Covers.{HasPebbles, live_part}
use Rattle.cover_cert.specs.CoverTable.{CanBeNamed, CoverRowParts}
use Rattle.cover_cert.specs.CoverSearch.{Naming, number_of}

-- a row that was made, without its names
abbrev pub made_row : Made → Row
made_row m = record { position = m.position; cost = m.cost }

abbrev pub made_rows : List Made → List Row
made_rows ms = map made_row ms

-- the name of a step from the row at p
abbrev pub naming_of : Position → Name → Naming
naming_of p n = record { row = p; step = n.step; by = n.by }

-- the names of a row that was made
abbrev pub made_namings : Made → List Naming
made_namings m = map (naming_of m.position) m.names.items

-- ---- the row that a step names

-- the row costs at most h and has these pebbles
pub record IsFit (q : Position) (h : ℕ) (r : Row) : Type 0 where
  pub costs : r.cost ≤ h
  pub has : HasPebbles r.position q

-- of the rows that fit, the first in the order of positions stands at `by`
pub record IsFirstFit (rows : List Row) (q : Position) (h : ℕ) (by : Position) : Type 0 where
  pub row : Row
  pub member : IsIn row rows
  pub at : row.position ≡ by
  pub fits : IsFit q h row
  pub first : (r : Row) → IsIn r rows → IsFit q h r → (by ≡ r.position) ⊎ (precedes by r.position ≡ true)

-- none fits, or this is where the first of those that fit stands
abbrev pub FitsFirst : List Row → Position → ℕ → Option Position → Type 0
FitsFirst rows q h None = (r : Row) → IsIn r rows → IsFit q h r → ⊥
FitsFirst rows q h (Some by) = IsFirstFit rows q h by

-- a step that can have a name gets that of the first row that covers where it leads, and costs no more than the cost there
abbrev pub NamesFirst : PebbleGame → List Row → Row → Step → Option Position → Type 0
NamesFirst g rows r s None = CanBeNamed s → FitsFirst rows (live_part g (stepped g r.position s)) (r.cost + step_cost g r.position s) None
NamesFirst g rows r s (Some by) = CanBeNamed s × IsFirstFit rows (live_part g (stepped g r.position s)) (r.cost + step_cost g r.position s) by

-- the one of two positions that comes first
abbrev pub IsSooner : Option Position → Position → Position → Type 0
IsSooner None p sooner = sooner ≡ p
IsSooner (Some q) p sooner = ((sooner ≡ p) × (precedes p q ≡ true)) ⊎ ((sooner ≡ q) × ((q ≡ p) ⊎ (precedes q p ≡ true)))

-- ---- the rows of the table

-- a name, with the number of its row among the rows in order
abbrev pub numbered_name : List Row → Name → Cover
numbered_name rows n = record { step = n.step; row = number_of rows n.by }

-- a row that was made, as a row of the table
abbrev pub full_row : List Row → Made → CoverRowParts
full_row rows m = record { position = m.position; cost = m.cost; names = map (numbered_name rows) m.names.items }
