-- What the search that names covering rows answers.
use Rattle.std.specs.Prelude.{◌≡◌, ℕ, List, ◌*◌, ◌-◌, ◌^◌, ◌≤◌, ◌<◌, ◌↔◌, length}
use Rattle.comp_graph.specs.Vertices.{size}
use Rattle.comp_graph.specs.Games.{PebbleGame, game_of}
use Rattle.normal_steps.specs.Plans.{PlanParts}
use Rattle.normal_steps.specs.declared.step.Step.{Step}
use Rattle.branch_bound.specs.declared.searching.Verdict.TheVariants.{Optimal, Open}
use Rattle.cover_cert.specs.declared.searching.CoverFound.{CoverFound}
use Rattle.cover_cert.specs.CoverAnswer.{AreCoverRows}
use Rattle.cover_cert.specs.CoverBytes.{IsCoverInRange}
use Rattle.cover_cert.specs.CoverSearch.{cover_searched}
use Rattle.cover_cert.specs.CoverTable.{CoverTableParts, IsCoverSupport, IsCoverTableOf}

-- a covered table of the game that has the rows of the search with their costs and names, and the bound that they and the cost support; a
-- bound below the cost comes only where there are as many rows as the budget says
pub record IsCoverSearchedTable (g : PebbleGame) (first : List Step) (budget cost : ℕ) (table : CoverTableParts) : Type 0 where
  pub of_game : IsCoverTableOf g table
  pub rows : AreCoverRows g first budget table.rows
  pub few : length table.rows ≤ budget
  pub support : IsCoverSupport g table.rows cost table.bound
  pub fills : table.bound < cost → length table.rows ≡ budget

-- the plan and the table are those of the search from the first plan, the table can be written, and the verdict says whether the bound is the
-- plan's cost; it is, where the budget is at least the number of positions whose blue vertices hold the inputs
pub record IsCoverFound (first : PlanParts) (budget : ℕ) (found : CoverFound) : Type 0 where
  pub game : found.plan.game ≡ first.game
  pub steps : found.plan.steps ≡ (cover_searched (game_of first.game) first.steps budget).search.plan
  pub first_cost : found.first_cost ≡ first.total
  pub no_more : found.plan.total ≤ first.total
  pub table : IsCoverSearchedTable (game_of first.game) first.steps budget found.plan.total found.table
  pub in_range : IsCoverInRange found.table
  pub is_optimal : (found.verdict ≡ Optimal) ↔ (found.table.bound ≡ found.plan.total)
  pub is_open : (found.verdict ≡ Open) ↔ ((length found.table.rows ≡ budget) × (found.table.bound < found.plan.total))
  pub enough : 2 ^ (2 * (game_of first.game).dag.count - size (game_of first.game).dag.inputs) ≤ budget → found.verdict ≡ Optimal
