-- Normal steps and normal plays, this project's own: a planner that makes these steps alone loses nothing against any pebbling by the rules
-- of 1981. Work(v) loads the missing predecessors of v and computes v; Drop(u) removes a red pebble; Spill(u) stores u and removes its red
-- pebble. A pebble is removed only where it is in the way of a step that might come. The positions of plays from the start have pebbles
-- on vertices of the graph alone; of others nothing is asked, so Drop and Spill remove any red pebble, wherever it stands.
use Rattle.std.specs.Prelude.{◌≡◌, ℕ, ◌+◌, ◌*◌, ◌≤◌, ◌<◌, List, [], ◌∷◌, true, ⊤}
use Rattle.std.specs.FinSet as set
use Rattle.comp_graph.specs.Vertices.{Vertices, ◌∈◌, ◌∉◌, IsWithin, size}
use Rattle.comp_graph.specs.Dags.{is_live, degree}
use Rattle.comp_graph.specs.Games.{PebbleGame}
use Rattle.pebble_rules.specs.Rules.{start}
use Rattle.pebble_rules.specs.declared.position.Position.{Position}
use Rattle.normal_steps.specs.declared.step.Step.{Step}
use Rattle.normal_steps.specs.declared.step.Step.TheVariants.{Work, Drop, Spill}

-- the red vertices after Work(v): the predecessors of v and v get pebbles
abbrev pub worked : PebbleGame → Vertices → ℕ → Vertices
worked g red v = set.insert (set.union red (g.dag.preds v)) v

-- Work(v) is for a live vertex that is no input and not red, whose predecessors all have a pebble, where the slots are enough
pub record CanWork (g : PebbleGame) (p : Position) (v : ℕ) : Type 0 where
  pub live : is_live g.dag v ≡ true
  pub no_input : v ∉ g.dag.inputs
  pub not_red : v ∉ p.red
  pub preds_held : IsWithin (g.dag.preds v) (set.union p.red p.blue)
  pub fits : size (worked g p.red v) ≤ g.slots

-- Drop(u) is for a red vertex, where some Work could lack the slot: it may need as many slots as the degree says, and one more
pub record CanDrop (g : PebbleGame) (p : Position) (u : ℕ) : Type 0 where
  pub red : u ∈ p.red
  pub crowded : g.slots < size p.red + degree g.dag + 1

-- Spill(u) is Drop(u) of a vertex that is not blue
pub record CanSpill (g : PebbleGame) (p : Position) (u : ℕ) : Type 0 where
  pub drop : CanDrop g p u
  pub not_blue : u ∉ p.blue

-- the step is legal at p
abbrev pub IsStep : PebbleGame → Position → Step → Type 0
IsStep g p (Work v) = CanWork g p v
IsStep g p (Drop u) = CanDrop g p u
IsStep g p (Spill u) = CanSpill g p u

-- the position after a step
abbrev pub stepped : PebbleGame → Position → Step → Position
stepped g p (Work v) = record { red = worked g p.red v; blue = p.blue }
stepped g p (Drop u) = record { red = set.remove p.red u; blue = p.blue }
stepped g p (Spill u) = record { red = set.remove p.red u; blue = set.insert p.blue u }

-- what a step costs: a load of each predecessor that is not red, or a store
abbrev pub step_cost : PebbleGame → Position → Step → ℕ
step_cost g p (Work v) = g.load * size (set.difference (g.dag.preds v) p.red)
step_cost g p (Drop u) = 0
step_cost g p (Spill u) = g.store

-- the position after a list of steps
abbrev pub play_after : PebbleGame → Position → List Step → Position
play_after g p [] = p
play_after g p (s ∷ ss) = play_after g (stepped g p s) ss

-- a normal play from p: each step of the list is legal where it stands
abbrev pub IsPlay : PebbleGame → Position → List Step → Type 0
IsPlay g p [] = ⊤
IsPlay g p (s ∷ ss) = IsStep g p s × IsPlay g (stepped g p s) ss

-- the sum of the steps' costs
abbrev pub play_cost : PebbleGame → Position → List Step → ℕ
play_cost g p [] = 0
play_cost g p (s ∷ ss) = step_cost g p s + play_cost g (stepped g p s) ss

-- the play can finish at p: each output has a pebble
abbrev pub CanFinish : PebbleGame → Position → Type 0
CanFinish g p = IsWithin g.dag.outputs (set.union p.red p.blue)

-- what the finish costs: a store of each output that is not blue
abbrev pub finish_cost : PebbleGame → Position → ℕ
finish_cost g p = g.store * size (set.difference g.dag.outputs p.blue)

-- a play from p that can finish at its end
pub record IsFinishing (g : PebbleGame) (p : Position) (ss : List Step) : Type 0 where
  pub play : IsPlay g p ss
  pub finishes : CanFinish g (play_after g p ss)

-- the cost of a play that finishes, the finish counted
abbrev pub total_cost : PebbleGame → Position → List Step → ℕ
total_cost g p ss = play_cost g p ss + finish_cost g (play_after g p ss)

-- a play of cost c leads from the start to p
pub record IsReached (g : PebbleGame) (p : Position) (c : ℕ) : Type 0 where
  pub steps : List Step
  pub play : IsPlay g (start g) steps
  pub ends : play_after g (start g) steps ≡ p
  pub costs : play_cost g (start g) steps ≡ c

-- these vertices, with the one in front that the step works on, if it works on one
abbrev pub worked_by : Step → List ℕ → List ℕ
worked_by (Work v) vs = v ∷ vs
worked_by (Drop u) vs = vs
worked_by (Spill u) vs = vs

-- the vertices of the Work steps, in order
abbrev pub work_vertices : List Step → List ℕ
work_vertices [] = []
work_vertices (s ∷ ss) = worked_by s (work_vertices ss)
