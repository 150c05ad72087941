-- The laws of the search that names covering rows.
use Rattle.std.specs.Prelude.{◌≡◌, true, false, Some, None, ℕ, zero, suc, ◌*◌, ◌-◌, ◌^◌, ◌≤◌, ◌<◌, List, length}
use Rattle.comp_graph.specs.Vertices.{size}
use Rattle.comp_graph.specs.Dags.{IsDag}
use Rattle.comp_graph.specs.Games.{PebbleGame}
use Rattle.pebble_rules.specs.Rules.{start}
use Rattle.normal_steps.specs.Steps.{CanFinish, IsFinishing, total_cost, IsReached}
use Rattle.normal_steps.specs.declared.step.Step.{Step}
use Rattle.comp_graph.specs.Lists.{IsIn}
use Rattle.potential_cert.specs.declared.tables.Row.{Row}
use Rattle.cover_cert.specs.CoverTable.{CoverRowParts, IsCoverTable, IsCoverSupport}
use Rattle.search_laws.specs.Search.{Entry, next_waiting, is_beaten, give_up}
use Rattle.cover_cert.specs.CoverSearch.{CoverSearch, cover_expand, cover_search_on, cover_searched, rows_covered}
use Rattle.cover_cert.specs.CoverAnswer.{AreCoverRows}

-- the answered plan finishes, at the answered cost, and costs no more than the first one
pub record IsCoverNoWorse (g : PebbleGame) (plan : List Step) (budget : ℕ) : Type 0 where
  pub finishing : IsFinishing g (start g) (cover_searched g plan budget).search.plan
  pub costs : total_cost g (start g) (cover_searched g plan budget).search.plan ≡ (cover_searched g plan budget).search.cost
  pub no_more : (cover_searched g plan budget).search.cost ≤ total_cost g (start g) plan

abbrev pub CoverPlanIsNoWorse : Type 0
CoverPlanIsNoWorse = (g : PebbleGame) → IsDag g.dag → (plan : List Step) → IsFinishing g (start g) plan → (budget : ℕ) → IsCoverNoWorse g plan budget

-- each row is reached at its cost by a play, and cannot finish
abbrev pub CoverRowsAreReached : Type 0
CoverRowsAreReached =
    (g : PebbleGame) → IsDag g.dag → (plan : List Step) → IsFinishing g (start g) plan → (budget : ℕ) → (r : Row) → IsIn r (rows_covered g plan budget)
    → IsReached g r.position r.cost × (CanFinish g r.position → ⊥)

-- the rows in order with their names and their support are a covered table
abbrev pub CoverSearchedIsValid : Type 0
CoverSearchedIsValid =
    (g : PebbleGame) → IsDag g.dag → (plan : List Step) → IsFinishing g (start g) plan → (budget : ℕ)
    → (rows : List CoverRowParts) → AreCoverRows g plan budget rows
    → (bound : ℕ) → IsCoverSupport g rows (cover_searched g plan budget).search.cost bound → IsCoverTable g rows bound

-- there are at most as many rows as the budget says, and where there are fewer the support is the answered cost
pub record CoverStopsEarly (g : PebbleGame) (plan : List Step) (budget : ℕ) (rows : List CoverRowParts) (bound : ℕ) : Type 0 where
  pub few : length rows ≤ budget
  pub fewer : length rows < budget → bound ≡ (cover_searched g plan budget).search.cost

abbrev pub CoverFewRowsAreOptimal : Type 0
CoverFewRowsAreOptimal =
    (g : PebbleGame) → IsDag g.dag → (plan : List Step) → IsFinishing g (start g) plan → (budget : ℕ)
    → (rows : List CoverRowParts) → AreCoverRows g plan budget rows
    → (bound : ℕ) → IsCoverSupport g rows (cover_searched g plan budget).search.cost bound → CoverStopsEarly g plan budget rows bound

-- where the support is below the answered cost, there are as many rows as the budget says
abbrev pub CoverOpenFillsBudget : Type 0
CoverOpenFillsBudget =
    (g : PebbleGame) → IsDag g.dag → (plan : List Step) → IsFinishing g (start g) plan → (budget : ℕ)
    → (rows : List CoverRowParts) → AreCoverRows g plan budget rows
    → (bound : ℕ) → IsCoverSupport g rows (cover_searched g plan budget).search.cost bound
    → bound < (cover_searched g plan budget).search.cost → length rows ≡ budget

-- where the budget is at least the number of positions with blue inputs, the support is the answered cost
abbrev pub CoverEnoughBudgetIsOptimal : Type 0
CoverEnoughBudgetIsOptimal =
    (g : PebbleGame) → IsDag g.dag → (plan : List Step) → IsFinishing g (start g) plan → (budget : ℕ)
    → 2 ^ (2 * g.dag.count - size g.dag.inputs) ≤ budget
    → (rows : List CoverRowParts) → AreCoverRows g plan budget rows
    → (bound : ℕ) → IsCoverSupport g rows (cover_searched g plan budget).search.cost bound → bound ≡ (cover_searched g plan budget).search.cost

-- what is left of a search after each kind of turn
pub record CoverGoesByTurns (g : PebbleGame) (t : CoverSearch) : Type 0 where
  pub budget_spent : cover_search_on g zero t ≡ t
  pub none_waits : (budget : ℕ) → next_waiting t.search.entries ≡ None → cover_search_on g budget t ≡ t
  pub given_up : (budget : ℕ) (e : Entry) → next_waiting t.search.entries ≡ Some e → is_beaten g t.search e ≡ true
      → cover_search_on g (suc budget) t ≡ cover_search_on g (suc budget) (record { search = give_up e t.search; names = t.names })
  pub expanded : (budget : ℕ) (e : Entry) → next_waiting t.search.entries ≡ Some e → is_beaten g t.search e ≡ false
      → cover_search_on g (suc budget) t ≡ cover_search_on g budget (cover_expand g e t)

abbrev pub CoverSearchGoesByTurns : Type 0
CoverSearchGoesByTurns = (g : PebbleGame) (t : CoverSearch) → CoverGoesByTurns g t
