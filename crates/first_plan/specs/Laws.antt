-- What the first plan keeps, and that its functions choose what their names say.
use Rattle.std.specs.Prelude.{◌≡◌, ℕ, ◌<◌, ◌≤◌, true, false}
use Rattle.std.specs.List.{AllPairs}
use Rattle.comp_graph.specs.Vertices.{Vertices, ◌∈◌, ◌∉◌, AllBelow, rising}
use Rattle.comp_graph.specs.Dags.{Dag, IsDag, degree}
use Rattle.comp_graph.specs.Games.{PebbleGame}
use Rattle.pebble_rules.specs.Rules.{start}
use Rattle.pebble_rules.specs.declared.position.Position.{Position}
use Rattle.normal_steps.specs.Steps.{IsFinishing, work_vertices}
use Rattle.first_plan.specs.NextUses.{is_planned, planned_of, is_later_use, next_use}
use Rattle.first_plan.specs.Victims.{last_needed, IsLastNeeded, victim}
use Rattle.first_plan.specs.FirstPlan.{is_short, first_steps}
use Rattle.first_plan.specs.Ready.{IsReady}

-- with more slots than the degree, the first plan is a normal play from the start that finishes
abbrev pub FirstPlanFinishes : Type 0
FirstPlanFinishes = (g : PebbleGame) → IsDag g.dag → degree g.dag < g.slots → IsFinishing g (start g) (first_steps g)

-- its Work steps are on just the live vertices that are no inputs, in rising number
abbrev pub WorksInOrder : Type 0
WorksInOrder = (g : PebbleGame) → work_vertices (first_steps g) ≡ rising g.dag.count (planned_of g.dag)

-- so no step works on a vertex twice: each works on a greater one than those before it
abbrev pub WorksOnce : Type 0
WorksOnce = (g : PebbleGame) → AllPairs (λ v w. v < w) (work_vertices (first_steps g))

-- the next use of u is a later use of it if it is a vertex, and no later use lies before it
pub record IsNextUse (d : Dag) (v u w : ℕ) : Type 0 where
  pub most : w ≤ d.count
  pub used : w < d.count → is_later_use d v u w ≡ true
  pub none_before : (x : ℕ) → x < w → is_later_use d v u x ≡ false

-- this is what `next_use` is
abbrev pub NextUseIsNext : Type 0
NextUseIsNext = (d : Dag) (v u w : ℕ) → IsNextUse d v u w → next_use d v u ≡ w

-- and what it gives always
abbrev pub NextUsesExist : Type 0
NextUsesExist = (d : Dag) (v u : ℕ) → IsNextUse d v u (next_use d v u)

-- a set of vertices with a member has one that is needed last, and `last_needed` is it
abbrev pub LastNeededIsLast : Type 0
LastNeededIsLast = (d : Dag) (v : ℕ) (s : Vertices) → AllBelow d.count s → (x : ℕ) → x ∈ s → IsLastNeeded d v s (last_needed d v s)

-- where a turn lacks a slot, the victim is a red vertex that Work(v) does not read
abbrev pub VictimIsSpare : Type 0
VictimIsSpare = (g : PebbleGame) → IsDag g.dag → degree g.dag < g.slots → (v : ℕ) → is_planned g.dag v ≡ true → (p : Position) → IsReady g v p
    → is_short g p v ≡ true → (victim g p v ∈ p.red) × (victim g p v ∉ g.dag.preds v)
