-- The one normal play that follows a pebbling: what it makes of each move, and so its steps. The definitions go as the loop of `tidy`
-- does, and need not be trusted: by the law `one_play` (src/laws.rt), a list of moves has at most one such play, and a complete pebbling
-- has one, which finishes and costs no more than the pebbling (`AreTidied` in Tidying.antt).
use Rattle.std.specs.Prelude.{◌≡◌, ℕ, ◌≤◌, ◌<◌, List, [], ◌∷◌, ◌++◌, ◌⊎◌, cond, true, false}
use Rattle.std.specs.FinSet as set
use Rattle.comp_graph.specs.Vertices.{Vertices, ◌∈◌, ◌∉◌, IsLeast, size}
use Rattle.comp_graph.specs.Dags.{IsDag, is_live}
use Rattle.comp_graph.specs.Games.{PebbleGame}
use Rattle.pebble_rules.specs.Rules.{start, moved, IsComplete}
use Rattle.pebble_rules.specs.declared.moves.Move.{Move}
use Rattle.pebble_rules.specs.declared.moves.Move.TheVariants.{Load, Store, Compute, DropRed, DropBlue}
use Rattle.normal_steps.specs.Steps.{worked, stepped}
use Rattle.normal_steps.specs.Simulation.{Debts}
use Rattle.normal_steps.specs.declared.step.Step.{Step}
use Rattle.normal_steps.specs.declared.step.Step.TheVariants.{Work, Drop, Spill}
use Rattle.play_files.specs.Tidying.{AreTidied, Following, first_following}

-- the play owes these stores and loads
abbrev pub owing : Following → Vertices → Vertices → Following
owing f stores loads = record { raw = f.raw; normal = f.normal; debts = record { stores = stores; loads = loads }; steps = f.steps }

-- the play makes a step more, and then owes these stores and loads
abbrev pub going_on : PebbleGame → Following → Step → Vertices → Vertices → Following
going_on g f s stores loads = record { raw = f.raw; normal = stepped g f.normal s; debts = record { stores = stores; loads = loads }; steps = f.steps ++ s ∷ [] }

-- a load is owed where the play could make it
abbrev pub load_put_off : Following → ℕ → Following
load_put_off f v = cond (set.contains f.normal.blue v) (cond (set.contains f.normal.red v) f (owing f f.debts.stores (set.insert f.debts.loads v))) f

-- a store is owed where the play could make it
abbrev pub store_put_off : Following → ℕ → Following
store_put_off f v = cond (set.contains f.normal.red v) (cond (set.contains f.normal.blue v) f (owing f (set.insert f.debts.stores v) f.debts.loads)) f

-- the step that removes u: a Spill where its store is owed
abbrev pub removal_of : Debts → ℕ → Step
removal_of debts u = cond (set.contains debts.stores u) (Spill u) (Drop u)

-- the play removes the red pebble of u, and pays the store of u if it is owed
abbrev pub removed : PebbleGame → Following → ℕ → Following
removed g f u = going_on g f (removal_of f.debts u) (set.remove f.debts.stores u) f.debts.loads

-- the vertices that are in the way of Work(v), and that the pebbling does without
abbrev pub in_the_way : PebbleGame → Following → ℕ → Vertices
in_the_way g f v = set.difference (worked g f.normal.red v) (set.insert f.raw.red v)

-- room is made for Work(v): while there are too few slots, the least vertex in the way is removed
pub data MakesRoom (g : PebbleGame) (v : ℕ) (after : Following) : Following → Type 0 where
  is_room : {f : Following} → size (worked g f.normal.red v) ≤ g.slots → after ≡ f → MakesRoom g v after f
  leaves : {f : Following} (u : ℕ) → g.slots < size (worked g f.normal.red v) → IsLeast (in_the_way g f v) u → MakesRoom g v after (removed g f u) → MakesRoom g v after f

-- the play works on v, and pays the loads of its predecessors that are owed
abbrev pub worked_on : PebbleGame → Following → ℕ → Following
worked_on g f v = going_on g f (Work v) f.debts.stores (set.difference f.debts.loads (g.dag.preds v))

-- a vertex that is dead, red or owed a load is passed over; on any other the play works, once there is room
pub data IsComputed (g : PebbleGame) (v : ℕ) (f after : Following) : Type 0 where
  passed_over : (is_live g.dag v ≡ false) ⊎ (v ∈ set.union f.normal.red f.debts.loads) → after ≡ f → IsComputed g v f after
  works : (roomy : Following) → is_live g.dag v ≡ true → v ∉ set.union f.normal.red f.debts.loads → MakesRoom g v roomy f → after ≡ worked_on g roomy v → IsComputed g v f after

-- what the play makes of a move of the pebbling
abbrev pub IsReply : PebbleGame → Move → Following → Following → Type 0
IsReply g (Load v) f after = after ≡ load_put_off f v
IsReply g (Store v) f after = after ≡ store_put_off f v
IsReply g (Compute v) f after = IsComputed g v f after
IsReply g (DropRed v) f after = after ≡ f
IsReply g (DropBlue v) f after = after ≡ f

-- and then the pebbling makes the move
abbrev pub IsFollowed : PebbleGame → Move → Following → Following → Type 0
IsFollowed g m f after = (reply : Following) × IsReply g m f reply × (after ≡ record { raw = moved f.raw m; normal = reply.normal; debts = reply.debts; steps = reply.steps })

-- so for each move of a list
abbrev pub AreFollowed : PebbleGame → List Move → Following → Following → Type 0
AreFollowed g [] f after = after ≡ f
AreFollowed g (m ∷ ms) f after = (next : Following) × IsFollowed g m f next × AreFollowed g ms next after

-- the steps of the play that follows these moves from the start
abbrev pub AreStepsOf : PebbleGame → List Move → List Step → Type 0
AreStepsOf g ms ss = (after : Following) × AreFollowed g ms (first_following g) after × (ss ≡ after.steps)

-- ---- laws

-- a list of moves has one such play at most
abbrev pub OnePlay : Type 0
OnePlay = (g : PebbleGame) (ms : List Move) (some others : List Step) → AreStepsOf g ms some → AreStepsOf g ms others → some ≡ others

-- a complete pebbling has one, which finishes and costs no more
abbrev pub EachIsFollowed : Type 0
EachIsFollowed = (g : PebbleGame) → IsDag g.dag → (ms : List Move) → IsComplete g (start g) ms → (ss : List Step) × AreStepsOf g ms ss × AreTidied g ms ss
