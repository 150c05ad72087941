-- The legal steps of a position of a window, this project's own: as three sets, and as a list in one order, which is Work, then Drop, then
-- Spill, and each kind by rising vertex.
use Rattle.std.specs.Prelude.{ℕ, ◌↔◌, cond, List}
use Rattle.std.specs.List.{AllPairs}
use Rattle.std.specs.FinSet as set
use Rattle.comp_graph.specs.Lists.{IsIn}
use Rattle.comp_graph.specs.Vertices.{Vertices, ◌∈◌, AllBelow, set_below}
use Rattle.comp_graph.specs.Dags.{IsDag}
use Rattle.comp_graph.specs.Games.{PebbleGame}
use Rattle.pebble_rules.specs.declared.position.Position.{Position}
use Rattle.normal_steps.specs.LegalSteps.{Precedes, listed}
use Rattle.normal_steps.specs.StepTests.{is_crowded, drops_of}
use Rattle.normal_steps.specs.declared.step.Step.{Step}
use Rattle.normal_steps.specs.declared.step.Step.TheVariants.{Work, Drop, Spill}
use Rattle.window_game.specs.Windows.{Window}
use Rattle.window_game.specs.Plays.{IsStepIn}
use Rattle.window_steps.specs.StepTests.{can_work_in}

-- the members of the three sets are the vertices for which Work, Drop and Spill are legal
pub record AreStepSets (g : PebbleGame) (w : Window) (p : Position) (works drops spills : Vertices) : Type 0 where
  pub worked : (v : ℕ) → (v ∈ works) ↔ IsStepIn g w p (Work v)
  pub dropped : (u : ℕ) → (u ∈ drops) ↔ IsStepIn g w p (Drop u)
  pub spilled : (u : ℕ) → (u ∈ spills) ↔ IsStepIn g w p (Spill u)

-- the list has just the legal steps, and each comes before all that follow it, so none is in it twice
pub record AreLegalStepsIn (g : PebbleGame) (w : Window) (p : Position) (ss : List Step) : Type 0 where
  pub legal : (s : Step) → IsIn s ss ↔ IsStepIn g w p s
  pub in_order : AllPairs Precedes ss

-- listed in order, the steps on such sets are the legal ones, if the vertices for Work and the red ones are below n
abbrev pub StepSetsAreListed : Type 0
StepSetsAreListed =
    (g : PebbleGame) (w : Window) (p : Position) (works drops spills : Vertices) → AreStepSets g w p works drops spills
    → (n : ℕ) → AllBelow n works → AllBelow n p.red → AreLegalStepsIn g w p (listed n works drops spills)

-- the vertices for which Work is legal
abbrev pub works_in : PebbleGame → Window → Position → Vertices
works_in g w p = set_below (can_work_in g w p) g.dag.count

-- the vertices for which Spill is legal
abbrev pub spills_in : PebbleGame → Window → Position → Vertices
spills_in g w p = cond (is_crowded g p) (set.difference (set.intersection p.red w.stores) p.blue) set.empty

-- the sets that the tests give are such sets
abbrev pub StepSetsAreTested : Type 0
StepSetsAreTested =
    (g : PebbleGame) → IsDag g.dag → (w : Window) (p : Position)
    → AreStepSets g w p (works_in g w p) (drops_of g p) (spills_in g w p)
