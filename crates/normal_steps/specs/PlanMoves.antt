-- The moves that a normal play stands for, this project's own.
use Rattle.std.specs.Prelude.{◌≡◌, ◌≤◌, List, [], ◌∷◌, ◌++◌, map}
use Rattle.std.specs.FinSet as set
use Rattle.comp_graph.specs.Vertices.{rising, size}
use Rattle.comp_graph.specs.Dags.{IsDag}
use Rattle.comp_graph.specs.Games.{PebbleGame}
use Rattle.pebble_rules.specs.Rules.{start, IsComplete, cost, computed}
use Rattle.pebble_rules.specs.declared.position.Position.{Position}
use Rattle.pebble_rules.specs.declared.moves.Move.{Move}
use Rattle.pebble_rules.specs.declared.moves.Move.TheVariants.{Load, Store, Compute, DropRed}
use Rattle.normal_steps.specs.Steps.{stepped, IsFinishing, total_cost, work_vertices}
use Rattle.normal_steps.specs.declared.step.Step.{Step}
use Rattle.normal_steps.specs.declared.step.Step.TheVariants.{Work, Drop, Spill}

-- Work loads the missing predecessors in rising number and computes; Drop removes the red pebble; Spill stores before it does
abbrev pub step_moves : PebbleGame → Position → Step → List Move
step_moves g p (Work v) = map Load (rising g.dag.count (set.difference (g.dag.preds v) p.red)) ++ Compute v ∷ []
step_moves g p (Drop u) = DropRed u ∷ []
step_moves g p (Spill u) = Store u ∷ DropRed u ∷ []

-- the finish stores the outputs that are not blue, in rising number
abbrev pub finish_moves : PebbleGame → Position → List Move
finish_moves g p = map Store (rising g.dag.count (set.difference g.dag.outputs p.blue))

-- the moves of a play from p, with those of the finish
abbrev pub play_moves : PebbleGame → Position → List Step → List Move
play_moves g p [] = finish_moves g p
play_moves g p (s ∷ ss) = step_moves g p s ++ play_moves g (stepped g p s) ss

-- the moves of a play that finishes are a complete pebbling of its cost, which computes just what the play works on, in the same order
pub record IsPlayed (g : PebbleGame) (p : Position) (ss : List Step) : Type 0 where
  pub complete : IsComplete g p (play_moves g p ss)
  pub costs : cost g (play_moves g p ss) ≡ total_cost g p ss
  pub computes : computed (play_moves g p ss) ≡ work_vertices ss

-- so it is from each position whose red pebbles fit the slots
abbrev pub PlaysArePebblings : Type 0
PlaysArePebblings =
    (g : PebbleGame) → IsDag g.dag → (p : Position) → size p.red ≤ g.slots → (ss : List Step) → IsFinishing g p ss → IsPlayed g p ss

-- so it is from the start: the moves of a plan are a complete pebbling of its cost
abbrev pub PlansArePebblings : Type 0
PlansArePebblings = (g : PebbleGame) → IsDag g.dag → (ss : List Step) → IsFinishing g (start g) ss → IsPlayed g (start g) ss
