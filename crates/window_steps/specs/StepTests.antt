-- Tests that say whether a step of a window is legal and whether a play of it can finish, this project's own.
use Rattle.std.specs.Prelude.{◌≡◌, ℕ, ◌↔◌, Bool, true, not, ◌&&◌, nat_le}
use Rattle.std.specs.FinSet as set
use Rattle.comp_graph.specs.Vertices.{size}
use Rattle.comp_graph.specs.Dags.{is_live}
use Rattle.comp_graph.specs.Games.{PebbleGame}
use Rattle.pebble_rules.specs.declared.position.Position.{Position}
use Rattle.normal_steps.specs.Steps.{worked}
use Rattle.normal_steps.specs.StepTests.{is_within, is_crowded}
use Rattle.normal_steps.specs.declared.step.Step.{Step}
use Rattle.normal_steps.specs.declared.step.Step.TheVariants.{Work, Drop, Spill}
use Rattle.window_game.specs.Windows.{Window, known, sees}
use Rattle.window_game.specs.Plays.{is_useful, IsStepIn, CanFinishIn}

-- each operand of v that can have a pebble has one
abbrev pub is_fed : PebbleGame → Window → Position → ℕ → Bool
is_fed g w p v = is_within (set.intersection (g.dag.preds v) (known w)) (set.union p.red p.blue)

-- the red pebbles, the operands of v and v fit the slots
abbrev pub has_room : PebbleGame → Position → ℕ → Bool
has_room g p v = nat_le (size (worked g p.red v)) g.slots

-- Work is legal
abbrev pub can_work_in : PebbleGame → Window → Position → ℕ → Bool
can_work_in g w p v =
    sees g w v
    && (is_live g.dag v
    && (not (set.contains g.dag.inputs v)
    && (is_fed g w p v && (has_room g p v && is_useful g w p v))))

-- the step is legal
abbrev pub is_step_in : PebbleGame → Window → Position → Step → Bool
is_step_in g w p (Work v) = can_work_in g w p v
is_step_in g w p (Drop u) = set.contains p.red u && is_crowded g p
is_step_in g w p (Spill u) =
    set.contains p.red u && (set.contains w.stores u && (not (set.contains p.blue u) && is_crowded g p))

-- the play can finish
abbrev pub can_finish_in : PebbleGame → Window → Position → Bool
can_finish_in g w p =
    is_within (set.intersection g.dag.outputs w.tracked) (set.union p.red p.blue) && is_within w.required p.blue

-- the test of a step says whether it is legal
abbrev pub StepsAreTestedIn : Type 0
StepsAreTestedIn = (g : PebbleGame) (w : Window) (p : Position) (s : Step) → (is_step_in g w p s ≡ true) ↔ IsStepIn g w p s

-- the test of the finish says whether a play can finish
abbrev pub FinishIsTestedIn : Type 0
FinishIsTestedIn = (g : PebbleGame) (w : Window) (p : Position) → (can_finish_in g w p ≡ true) ↔ CanFinishIn g w p
