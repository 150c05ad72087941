-- What the search that names covering rows keeps from turn to turn.
use Rattle.std.specs.Prelude.{◌≡◌, ◌⊎◌, ⊤, ℕ, ◌+◌, ◌≤◌, ◌<◌, List, [], ◌∷◌}
use Rattle.comp_graph.specs.Games.{PebbleGame}
use Rattle.pebble_rules.specs.declared.position.Position.{Position}
use Rattle.normal_steps.specs.Steps.{stepped, step_cost}
use Rattle.normal_steps.specs.StepTests.{legal_steps}
use Rattle.normal_steps.specs.declared.step.Step.{Step}
use Rattle.comp_graph.specs.Lists.{IsIn}
use Rattle.potential_cert.specs.Places.{IsAt}
use Rattle.potential_cert.specs.declared.tables.Row.{Row}
use Rattle.search_laws.specs.Search.{rows_of}
use Rattle.search_laws.specs.Standing.{IsKept, IsSettled}
use Rattle.cover_cert.specs.Covers.{Covers}
use Rattle.cover_cert.specs.CoverTable.{CanBeNamed}
use Rattle.cover_cert.specs.CoverSearch.{CoverSearch, Naming}

-- the step at place k of the row at p was given a name
abbrev pub HasNaming : List Naming → Position → ℕ → Type 0
HasNaming names p k = (n : Naming) × IsIn n names × (n.row ≡ p) × (n.step ≡ k)

-- a name of a step of one row by another that covers where it leads
pub record IsGoodNaming (g : PebbleGame) (rows : List Row) (n : Naming) : Type 0 where
  pub row : Row
  pub is_row : IsIn row rows
  pub row_at : row.position ≡ n.row
  pub by : Row
  pub is_by : IsIn by rows
  pub by_at : by.position ≡ n.by
  pub step : Step
  pub is_step : IsAt step n.step (legal_steps g n.row)
  pub can_be_named : CanBeNamed step
  pub covers : Covers g n.by (stepped g n.row step)
  pub costs : by.cost ≤ row.cost + step_cost g n.row step

-- the names of each row rise
abbrev pub NamingsRise : List Naming → Type 0
NamingsRise [] = ⊤
NamingsRise (n ∷ ns) = ((m : Naming) → IsIn m ns → m.row ≡ n.row → n.step < m.step) × NamingsRise ns

pub record AreNamings (g : PebbleGame) (rows : List Row) (names : List Naming) : Type 0 where
  pub good : (n : Naming) → IsIn n names → IsGoodNaming g rows n
  pub rise : NamingsRise names

-- a step from a row was given a name, or it is settled as in branch and bound
abbrev pub IsSettledOrNamed : PebbleGame → CoverSearch → Row → ℕ → Step → Type 0
IsSettledOrNamed g t r k s = HasNaming t.names r.position k ⊎ IsSettled g t.search r s

-- what the search keeps, and that each step from a row is settled or has a name
pub record CoverStands (g : PebbleGame) (first : ℕ) (t : CoverSearch) : Type 0 where
  pub kept : IsKept g first t.search
  pub settled : (r : Row) → IsIn r (rows_of t.search.entries) → (k : ℕ) (s : Step) → IsAt s k (legal_steps g r.position) → IsSettledOrNamed g t r k s
  pub named : AreNamings g (rows_of t.search.entries) t.names
