-- The laws of the search.
use Rattle.std.specs.Prelude.{◌≡◌, true, false, Some, None, ℕ, zero, suc, ◌*◌, ◌-◌, ◌^◌, ◌≤◌, ◌<◌, ◌⊎◌, ◌↔◌, List, length}
use Rattle.comp_graph.specs.Vertices.{size}
use Rattle.comp_graph.specs.Games.{PebbleGame}
use Rattle.comp_graph.specs.Dags.{IsDag}
use Rattle.pebble_rules.specs.declared.position.Position.{Position}
use Rattle.pebble_rules.specs.Rules.{start, IsComplete, cost}
use Rattle.normal_steps.specs.Steps.{IsStep, CanFinish, IsFinishing, total_cost, IsReached}
use Rattle.normal_steps.specs.Sound.{IsSound}
use Rattle.pebble_rules.specs.declared.moves.Move.{Move}
use Rattle.normal_steps.specs.declared.step.Step.{Step}
use Rattle.comp_graph.specs.Lists.{IsIn}
use Rattle.potential_cert.specs.declared.tables.Row.{Row}
use Rattle.potential_cert.specs.Table.{AreDistinct, IsValid, IsSupport}
use Rattle.potential_cert.specs.TableLaws.{HaveSameMembers}
use Rattle.normal_steps.specs.StepTests.{legal_steps}
use Rattle.search_laws.specs.Steps.{same_position}
use Rattle.search_laws.specs.Search.{Entry, Search, searched, rows_searched, next_waiting, is_beaten, give_up, expand, search_on}

-- the test of positions holds where they are one
abbrev pub PositionsAreTested : Type 0
PositionsAreTested = (p q : Position) → same_position p q ≡ true ↔ (p ≡ q)

-- the list of legal steps has just the legal steps, where the red vertices are vertices of the graph
abbrev pub LegalStepsAreAll : Type 0
LegalStepsAreAll = (g : PebbleGame) → IsDag g.dag → (p : Position) → IsSound g p → (s : Step) → IsStep g p s ↔ IsIn s (legal_steps g p)

-- the answered plan finishes, at the answered cost, and costs no more than the first one
pub record IsNoWorse (g : PebbleGame) (plan : List Step) (budget : ℕ) : Type 0 where
  pub finishing : IsFinishing g (start g) (searched g plan budget).plan
  pub costs : total_cost g (start g) (searched g plan budget).plan ≡ (searched g plan budget).cost
  pub no_more : (searched g plan budget).cost ≤ total_cost g (start g) plan

-- it is so from each plan that finishes, with each budget
abbrev pub PlanIsNoWorse : Type 0
PlanIsNoWorse = (g : PebbleGame) → IsDag g.dag → (plan : List Step) → IsFinishing g (start g) plan → (budget : ℕ) → IsNoWorse g plan budget

-- each row is reached at its cost by a play, and cannot finish
abbrev pub RowsAreReached : Type 0
RowsAreReached = (g : PebbleGame) → IsDag g.dag → (plan : List Step) → IsFinishing g (start g) plan → (budget : ℕ) → (r : Row) → IsIn r (rows_searched g plan budget)
    → IsReached g r.position r.cost × (CanFinish g r.position → ⊥)

-- with a greater budget the same rows are made first, and each row made later costs no less
pub record MakesInOrder (g : PebbleGame) (plan : List Step) (budget : ℕ) : Type 0 where
  pub kept : (r : Row) → IsIn r (rows_searched g plan budget) → IsIn r (rows_searched g plan (suc budget))
  pub later : (r q : Row) → IsIn r (rows_searched g plan budget) → IsIn q (rows_searched g plan (suc budget)) → IsIn q (rows_searched g plan budget) ⊎ (r.cost ≤ q.cost)

-- it is so of each search: the rows are made in order of cost
abbrev pub RowsAreMadeInOrder : Type 0
RowsAreMadeInOrder = (g : PebbleGame) → IsDag g.dag → (plan : List Step) → IsFinishing g (start g) plan → (budget : ℕ) → MakesInOrder g plan budget

-- the table of the rows, in any order, with their support is valid
abbrev pub SearchedTableIsValid : Type 0
SearchedTableIsValid = (g : PebbleGame) → IsDag g.dag → (plan : List Step) → IsFinishing g (start g) plan → (budget : ℕ)
    → (rows : List Row) → AreDistinct rows → HaveSameMembers (rows_searched g plan budget) rows
    → (bound : ℕ) → IsSupport g rows (searched g plan budget).cost bound → IsValid g rows bound

-- the support is at least the lesser of the answered cost and the cost of each row
abbrev pub SupportIsHigh : Type 0
SupportIsHigh = (g : PebbleGame) → IsDag g.dag → (plan : List Step) → IsFinishing g (start g) plan → (budget : ℕ)
    → (bound : ℕ) → IsSupport g (rows_searched g plan budget) (searched g plan budget).cost bound
    → (r : Row) → IsIn r (rows_searched g plan budget) → ((searched g plan budget).cost ≤ bound) ⊎ (r.cost ≤ bound)

-- there are at most as many rows as the budget says, and where there are fewer the support is the answered cost
pub record StopsEarly (g : PebbleGame) (plan : List Step) (budget : ℕ) : Type 0 where
  pub few : length (rows_searched g plan budget) ≤ budget
  pub fewer : length (rows_searched g plan budget) < budget → (bound : ℕ) → IsSupport g (rows_searched g plan budget) (searched g plan budget).cost bound → bound ≡ (searched g plan budget).cost

-- it is so of each search
abbrev pub FewRowsAreOptimal : Type 0
FewRowsAreOptimal = (g : PebbleGame) → IsDag g.dag → (plan : List Step) → IsFinishing g (start g) plan → (budget : ℕ) → StopsEarly g plan budget

-- where the budget is at least the number of positions whose blue set holds the inputs, the support is the answered cost
abbrev pub EnoughBudgetIsOptimal : Type 0
EnoughBudgetIsOptimal = (g : PebbleGame) → IsDag g.dag → (plan : List Step) → IsFinishing g (start g) plan → (budget : ℕ)
    → 2 ^ (2 * g.dag.count - size g.dag.inputs) ≤ budget
    → (bound : ℕ) → IsSupport g (rows_searched g plan budget) (searched g plan budget).cost bound → bound ≡ (searched g plan budget).cost

-- the bound of the search is at most the cost of each complete pebbling
abbrev pub SupportIsBelowPebblings : Type 0
SupportIsBelowPebblings = (g : PebbleGame) → IsDag g.dag → (plan : List Step) → IsFinishing g (start g) plan → (budget : ℕ)
    → (bound : ℕ) → IsSupport g (rows_searched g plan budget) (searched g plan budget).cost bound
    → (ms : List Move) → IsComplete g (start g) ms → bound ≤ cost g ms

-- where the support is below the answered cost, there are as many rows as the budget says
abbrev pub OpenFillsBudget : Type 0
OpenFillsBudget = (g : PebbleGame) → IsDag g.dag → (plan : List Step) → IsFinishing g (start g) plan → (budget : ℕ)
    → (bound : ℕ) → IsSupport g (rows_searched g plan budget) (searched g plan budget).cost bound
    → bound < (searched g plan budget).cost → length (rows_searched g plan budget) ≡ budget

-- what a search makes of its state in a turn, and where it ends
pub record GoesByTurns (g : PebbleGame) (t : Search) : Type 0 where
  pub budget_spent : search_on g zero t ≡ t
  pub none_waits : (budget : ℕ) → next_waiting t.entries ≡ None → search_on g budget t ≡ t
  pub given_up : (budget : ℕ) (e : Entry) → next_waiting t.entries ≡ Some e → is_beaten g t e ≡ true → search_on g (suc budget) t ≡ search_on g (suc budget) (give_up e t)
  pub expanded : (budget : ℕ) (e : Entry) → next_waiting t.entries ≡ Some e → is_beaten g t e ≡ false → search_on g (suc budget) t ≡ search_on g budget (expand g e t)

-- it is so of each state: the definition is that of the plain turns
abbrev pub SearchGoesByTurns : Type 0
SearchGoesByTurns = (g : PebbleGame) (t : Search) → GoesByTurns g t
