-- What the search that names covering rows answers, and what holds of it.
use Rattle.std.specs.Prelude.{◌≡◌, ℕ, ◌≤◌, ◌<◌, List, length}
use Rattle.comp_graph.specs.Dags.{IsDag}
use Rattle.comp_graph.specs.Games.{PebbleGame}
use Rattle.pebble_rules.specs.Rules.{start, IsComplete, cost}
use Rattle.pebble_rules.specs.declared.moves.Move.{Move}
use Rattle.normal_steps.specs.Steps.{IsFinishing, total_cost}
use Rattle.normal_steps.specs.declared.step.Step.{Step}
use Rattle.potential_cert.specs.declared.tables.Row.{Row}
use Rattle.potential_cert.specs.Table.{IsRising}
use Rattle.potential_cert.specs.TableLaws.{HaveSameMembers}
use Rattle.potential_cert.specs.Order.{precedes}
use Rattle.cover_cert.specs.CoverTable.{CoverRowParts, IsCoverTable, IsCoverSupport}
use Rattle.cover_cert.specs.CoverSearch.{cover_searched, rows_covered, cover_rows}

-- the rows of the search in the order of positions, each with the names of its steps
pub record AreCoverRows (g : PebbleGame) (first : List Step) (budget : ℕ) (rows : List CoverRowParts) : Type 0 where
  pub sorted : List Row
  pub rise : IsRising precedes sorted
  pub members : HaveSameMembers (rows_covered g first budget) sorted
  pub named : rows ≡ cover_rows sorted (cover_searched g first budget).names

-- a plan, the rows in order with their names, and a bound are the answer of the search from a first plan with a budget
pub record IsCoverAnswer (g : PebbleGame) (first : List Step) (budget : ℕ) (plan : List Step) (rows : List CoverRowParts) (bound : ℕ) : Type 0 where
  pub plan_is : plan ≡ (cover_searched g first budget).search.plan
  pub rows_are : AreCoverRows g first budget rows
  pub support : IsCoverSupport g rows (total_cost g (start g) plan) bound

-- what an answer promises
pub record IsCoverProved (g : PebbleGame) (first : List Step) (budget : ℕ) (plan : List Step) (rows : List CoverRowParts) (bound : ℕ) : Type 0 where
  pub finishing : IsFinishing g (start g) plan
  pub no_more : total_cost g (start g) plan ≤ total_cost g (start g) first
  pub valid : IsCoverTable g rows bound
  pub few : length rows ≤ budget
  pub open_fills : bound < total_cost g (start g) plan → length rows ≡ budget
  pub below : (ms : List Move) → IsComplete g (start g) ms → bound ≤ cost g ms

abbrev pub CoverAnswersAreProved : Type 0
CoverAnswersAreProved =
    (g : PebbleGame) → IsDag g.dag → (first : List Step) → IsFinishing g (start g) first → (budget : ℕ)
    → (plan : List Step) (rows : List CoverRowParts) (bound : ℕ) → IsCoverAnswer g first budget plan rows bound → IsCoverProved g first budget plan rows bound
