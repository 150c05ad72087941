-- The game on a window, this project's own: positions, steps and plays. A red pebble of a position is on a tracked vertex. A blue one
-- is on a tracked vertex that is in slow memory, or on a vertex that has been worked on and whose store is not charged.
use Rattle.std.specs.Prelude.{◌≡◌, ℕ, ◌+◌, ◌*◌, ◌≤◌, ◌<◌, List, [], ◌∷◌, Bool, true, ◌||◌, cond, nat_lt, ⊤}
use Rattle.std.specs.FinSet as set
use Rattle.comp_graph.specs.Vertices.{◌∈◌, ◌∉◌, IsWithin, size}
use Rattle.comp_graph.specs.Dags.{is_live, degree}
use Rattle.comp_graph.specs.Games.{PebbleGame}
use Rattle.pebble_rules.specs.declared.position.Position.{Position}
use Rattle.normal_steps.specs.declared.step.Step.{Step}
use Rattle.normal_steps.specs.declared.step.Step.TheVariants.{Work, Drop, Spill}
use Rattle.normal_steps.specs.Steps.{worked}
use Rattle.window_game.specs.Windows.{Window, kept, known, sees}

-- no red pebble, and a blue one on each tracked input
abbrev pub start_in : PebbleGame → Window → Position
start_in g w = record { red = set.empty; blue = set.intersection g.dag.inputs w.tracked }

-- Work(v) is possible for a live vertex that is no input and that the window sees, if each operand that can have a pebble has one, and
-- the red pebbles, the operands and v fit the slots
pub record CanWorkIn (g : PebbleGame) (w : Window) (p : Position) (v : ℕ) : Type 0 where
  pub seen : sees g w v ≡ true
  pub live : is_live g.dag v ≡ true
  pub no_input : v ∉ g.dag.inputs
  pub preds_held : IsWithin (set.intersection (g.dag.preds v) (known w)) (set.union p.red p.blue)
  pub fits : size (worked g p.red v) ≤ g.slots

-- Spill(u) is possible for a red vertex that is not blue and whose store is charged
pub record CanSpillIn (g : PebbleGame) (w : Window) (p : Position) (u : ℕ) : Type 0 where
  pub red : u ∈ p.red
  pub charged : u ∈ w.stores
  pub not_blue : u ∉ p.blue

-- the step is possible at p; Drop(u) is possible for each red vertex
abbrev pub IsPossibleStep : PebbleGame → Window → Position → Step → Type 0
IsPossibleStep g w p (Work v) = CanWorkIn g w p v
IsPossibleStep g w p (Drop u) = u ∈ p.red
IsPossibleStep g w p (Spill u) = CanSpillIn g w p u

-- Work(v) makes v red or blue, which it was not, or loads an operand for which it is not charged
abbrev pub is_useful : PebbleGame → Window → Position → ℕ → Bool
is_useful g w p v =
    set.contains (set.difference w.tracked p.red) v
    || (set.contains (set.difference (kept w) p.blue) v
    || nat_lt 0 (size (set.difference (set.intersection (g.dag.preds v) w.tracked) (set.union (w.loads v) p.red))))

-- nothing is gained if the step is put off: a Work is useful, and for Drop and Spill some Work could lack the slot
abbrev pub IsTimely : PebbleGame → Window → Position → Step → Type 0
IsTimely g w p (Work v) = is_useful g w p v ≡ true
IsTimely g w p (Drop u) = g.slots < size p.red + degree g.dag + 1
IsTimely g w p (Spill u) = g.slots < size p.red + degree g.dag + 1

-- the step is legal at p: it is possible and timely
abbrev pub IsStepIn : PebbleGame → Window → Position → Step → Type 0
IsStepIn g w p s = IsPossibleStep g w p s × IsTimely g w p s

-- the position after a step
abbrev pub stepped_in : PebbleGame → Window → Position → Step → Position
stepped_in g w p (Work v) = record {
  red = set.intersection (worked g p.red v) w.tracked;
  blue = cond (set.contains (kept w) v) (set.insert p.blue v) p.blue;
}
stepped_in g w p (Drop u) = record { red = set.remove p.red u; blue = p.blue }
stepped_in g w p (Spill u) = record { red = set.remove p.red u; blue = set.insert p.blue u }

-- the cost of a step: the charged loads of operands that are not red, or a store
abbrev pub step_cost_in : PebbleGame → Window → Position → Step → ℕ
step_cost_in g w p (Work v) = g.load * size (set.difference (w.loads v) p.red)
step_cost_in g w p (Drop u) = 0
step_cost_in g w p (Spill u) = g.store

-- the position after a list of steps
abbrev pub play_after_in : PebbleGame → Window → Position → List Step → Position
play_after_in g w p [] = p
play_after_in g w p (s ∷ ss) = play_after_in g w (stepped_in g w p s) ss

-- a play of the window from p: each step of the list is legal at its position
abbrev pub IsPlayIn : PebbleGame → Window → Position → List Step → Type 0
IsPlayIn g w p [] = ⊤
IsPlayIn g w p (s ∷ ss) = IsStepIn g w p s × IsPlayIn g w (stepped_in g w p s) ss

-- each step of the list is possible at its position, timely or not
abbrev pub IsPossiblePlay : PebbleGame → Window → Position → List Step → Type 0
IsPossiblePlay g w p [] = ⊤
IsPossiblePlay g w p (s ∷ ss) = IsPossibleStep g w p s × IsPossiblePlay g w (stepped_in g w p s) ss

-- the sum of the steps' costs
abbrev pub play_cost_in : PebbleGame → Window → Position → List Step → ℕ
play_cost_in g w p [] = 0
play_cost_in g w p (s ∷ ss) = step_cost_in g w p s + play_cost_in g w (stepped_in g w p s) ss

-- the play can finish at p: each tracked output has a pebble, and each required vertex is blue, so it has been worked on
pub record CanFinishIn (g : PebbleGame) (w : Window) (p : Position) : Type 0 where
  pub outputs_held : IsWithin (set.intersection g.dag.outputs w.tracked) (set.union p.red p.blue)
  pub required_done : IsWithin w.required p.blue

-- the cost of the finish: a store of each output that is not blue and whose store is charged
abbrev pub finish_cost_in : PebbleGame → Window → Position → ℕ
finish_cost_in g w p = g.store * size (set.difference (set.intersection g.dag.outputs w.stores) p.blue)

-- a play of the window from p that can finish at its end
pub record IsFinishingIn (g : PebbleGame) (w : Window) (p : Position) (ss : List Step) : Type 0 where
  pub play : IsPlayIn g w p ss
  pub finishes : CanFinishIn g w (play_after_in g w p ss)

-- the cost of a play that finishes, with its finish
abbrev pub total_cost_in : PebbleGame → Window → Position → List Step → ℕ
total_cost_in g w p ss = play_cost_in g w p ss + finish_cost_in g w (play_after_in g w p ss)
