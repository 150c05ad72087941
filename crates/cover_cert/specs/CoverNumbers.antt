-- When rows that were made can be put in order and numbered, and what comes of it.
use Rattle.std.specs.Prelude.{◌≡◌, ◌≤◌, List, map, length, IsPermutation}
use Rattle.comp_graph.specs.Lists.{IsIn}
use Rattle.potential_cert.specs.declared.tables.Row.{Row}
use Rattle.potential_cert.specs.Order.{precedes}
use Rattle.potential_cert.specs.Table.{HasRow, IsRising}
use Rattle.comp_graph.specs.Vertices.{AllBelow}
use Rattle.branch_bound.specs.Frontiers.{StandApart}
use Rattle.cover_cert.specs.declared.making.Made.{Made}
use Rattle.cover_cert.specs.declared.making.Name.{Name}
use Rattle.cover_cert.specs.CoverMaking.{full_row, made_rows}
use Rattle.cover_cert.specs.CoverTable.{CoverRowParts}

-- each name is that of one of these rows
abbrev pub AreKnown : List Row → List Made → Type 0
AreKnown rows made = (m : Made) → IsIn m made → (n : Name) → IsIn n m.names.items → HasRow rows n.by

-- the rows stand apart, on vertices below 256, and each name is that of one of them
pub record CanBeOrdered (made : List Made) : Type 0 where
  pub apart : StandApart (made_rows made)
  pub red : (m : Made) → IsIn m made → AllBelow 256 m.position.red
  pub blue : (m : Made) → IsIn m made → AllBelow 256 m.position.blue
  pub few : length made ≤ 4294967295
  pub known : AreKnown (made_rows made) made

-- these are the rows that were made, in the order of their positions, with their names as numbers
pub record AreNumbered (made : List Made) (rows : List CoverRowParts) : Type 0 where
  pub sorted : List Made
  pub moved : IsPermutation made sorted
  pub rise : IsRising precedes (made_rows sorted)
  pub full : rows ≡ map (full_row (made_rows sorted)) sorted
