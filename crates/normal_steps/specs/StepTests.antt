-- The same by tests: whether a step is legal, whether a play can finish, and the legal steps of a position as one list. The laws show the
-- tests equal to what they test.
use Rattle.std.specs.Prelude.{◌≡◌, ℕ, ◌+◌, ◌<◌, ◌↔◌, Bool, true, cond, not, ◌&&◌, nat_eq, nat_lt, nat_le, List}
use Rattle.std.specs.FinSet as set
use Rattle.comp_graph.specs.Vertices.{Vertices, ◌∈◌, size, set_below}
use Rattle.comp_graph.specs.Dags.{IsDag, is_live, degree}
use Rattle.comp_graph.specs.Games.{PebbleGame}
use Rattle.pebble_rules.specs.declared.position.Position.{Position}
use Rattle.normal_steps.specs.Steps.{worked, IsStep, CanFinish}
use Rattle.normal_steps.specs.LegalSteps.{AreLegalSteps, listed}
use Rattle.normal_steps.specs.declared.step.Step.{Step}
use Rattle.normal_steps.specs.declared.step.Step.TheVariants.{Work, Drop, Spill}

-- each member of s is a member of t
abbrev pub is_within : Vertices → Vertices → Bool
is_within s t = nat_eq (size (set.difference s t)) 0

-- Work is legal
abbrev pub can_work : PebbleGame → Position → ℕ → Bool
can_work g p v =
    is_live g.dag v
    && (not (set.contains g.dag.inputs v)
    && (not (set.contains p.red v)
    && (is_within (g.dag.preds v) (set.union p.red p.blue) && nat_le (size (worked g p.red v)) g.slots)))

-- some Work could lack a slot
abbrev pub is_crowded : PebbleGame → Position → Bool
is_crowded g p = nat_lt g.slots (size p.red + degree g.dag + 1)

-- the step is legal
abbrev pub is_step : PebbleGame → Position → Step → Bool
is_step g p (Work v) = can_work g p v
is_step g p (Drop u) = set.contains p.red u && is_crowded g p
is_step g p (Spill u) = (set.contains p.red u && is_crowded g p) && not (set.contains p.blue u)

-- the play can finish
unfoldable pub can_finish : PebbleGame → Position → Bool
can_finish g p = is_within g.dag.outputs (set.union p.red p.blue)

-- the vertices that Work is legal for
abbrev pub works_of : PebbleGame → Position → Vertices
works_of g p = set_below (can_work g p) g.dag.count

-- those that Drop is legal for
abbrev pub drops_of : PebbleGame → Position → Vertices
drops_of g p = cond (is_crowded g p) p.red set.empty

-- those that Spill is legal for
abbrev pub spills_of : PebbleGame → Position → Vertices
spills_of g p = cond (is_crowded g p) (set.difference p.red p.blue) set.empty

-- Work by rising vertex, then Drop, then Spill
unfoldable pub legal_steps : PebbleGame → Position → List Step
legal_steps g p = listed g.dag.count (works_of g p) (drops_of g p) (spills_of g p)

-- the test of a step says whether it is legal
abbrev pub StepsAreTested : Type 0
StepsAreTested = (g : PebbleGame) (p : Position) (s : Step) → (is_step g p s ≡ true) ↔ IsStep g p s

-- the test of the finish says whether a play can finish
abbrev pub FinishIsTested : Type 0
FinishIsTested = (g : PebbleGame) (p : Position) → (can_finish g p ≡ true) ↔ CanFinish g p

-- one list alone has just the legal steps of a position in their order
abbrev pub LegalStepsAreOneList : Type 0
LegalStepsAreOneList = (g : PebbleGame) (p : Position) (xs ys : List Step) → AreLegalSteps g p xs → AreLegalSteps g p ys → xs ≡ ys

-- where the red pebbles stand on vertices of the graph, it is the list that the tests give
abbrev pub LegalStepsAreListed : Type 0
LegalStepsAreListed = (g : PebbleGame) → IsDag g.dag → (p : Position) → ((v : ℕ) → v ∈ p.red → v < g.dag.count) → AreLegalSteps g p (legal_steps g p)
