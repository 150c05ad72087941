-- Normal plays follow pebblings: whatever a pebbling by the rules of 1981 does, a normal play can do at no greater cost. The argument is
-- this project's own: the play puts off the loads and the stores that the pebbling has paid, and owes them.
use Rattle.std.specs.Prelude.{◌≡◌, ℕ, ◌+◌, ◌*◌, ◌≤◌, List, [], true}
use Rattle.std.specs.FinSet as set
use Rattle.comp_graph.specs.Vertices.{Vertices, ◌∈◌, IsWithin, IsOutside, size}
use Rattle.comp_graph.specs.Dags.{IsDag, is_live}
use Rattle.comp_graph.specs.Games.{PebbleGame}
use Rattle.pebble_rules.specs.Rules.{start, IsMove, moved, move_cost, cost, IsPebbling, position_after, IsComplete, computed_by, computed}
use Rattle.pebble_rules.specs.declared.position.Position.{Position}
use Rattle.pebble_rules.specs.declared.moves.Move.{Move}
use Rattle.normal_steps.specs.Subsequences.{IsSubsequence}
use Rattle.normal_steps.specs.Steps.{IsPlay, play_after, play_cost, IsFinishing, total_cost, work_vertices}
use Rattle.normal_steps.specs.declared.step.Step.{Step}

-- what the pebbling has paid and the play has not: stores of red vertices, and loads of blue ones
pub record Debts : Type 0 where
  pub stores : Vertices
  pub loads : Vertices

-- nothing is owed
abbrev pub no_debts : Debts
no_debts = record { stores = set.empty; loads = set.empty }

-- what it costs to pay the debts
abbrev pub weight : PebbleGame → Debts → ℕ
weight g debts = g.store * size debts.stores + g.load * size debts.loads

-- the position `normal` of a play follows the position `raw` of a pebbling with these debts: the live red vertices of the pebbling are red
-- or owed a load, and its live blue ones are blue or owed a store
pub record Follows (g : PebbleGame) (raw normal : Position) (debts : Debts) : Type 0 where
  pub stores_red : IsWithin debts.stores normal.red
  pub stores_not_blue : IsOutside debts.stores normal.blue
  pub loads_blue : IsWithin debts.loads normal.blue
  pub loads_not_red : IsOutside debts.loads normal.red
  pub red : (v : ℕ) → is_live g.dag v ≡ true → v ∈ raw.red → v ∈ set.union normal.red debts.loads
  pub blue : (v : ℕ) → is_live g.dag v ≡ true → v ∈ raw.blue → v ∈ set.union normal.blue debts.stores

-- a play from `normal` answers moves to `raw` that cost `paid` and compute `vertices`: it leads to a position that follows `raw`, its cost
-- and what is then owed are at most what was paid and owed, and its Work steps are on some of these vertices, in this order
pub record IsAnswered (g : PebbleGame) (raw normal : Position) (debts : Debts) (paid : ℕ) (vertices : List ℕ) : Type 0 where
  pub steps : List Step
  pub owed : Debts
  pub play : IsPlay g normal steps
  pub follows : Follows g raw (play_after g normal steps) owed
  pub costs : play_cost g normal steps + weight g owed ≤ paid + weight g debts
  pub works : IsSubsequence (work_vertices steps) vertices

-- each move of the game is answered from each position that follows
abbrev pub EachMoveIsAnswered : Type 0
EachMoveIsAnswered =
    (g : PebbleGame) → IsDag g.dag → (raw normal : Position) (debts : Debts) → Follows g raw normal debts
    → (m : Move) → IsMove g raw m → IsAnswered g (moved raw m) normal debts (move_cost g m) (computed_by m [])

-- each list of moves is answered from each position that follows
abbrev pub EachPebblingIsAnswered : Type 0
EachPebblingIsAnswered =
    (g : PebbleGame) → IsDag g.dag → (raw normal : Position) (debts : Debts) → Follows g raw normal debts
    → (ms : List Move) → IsPebbling g raw ms → IsAnswered g (position_after raw ms) normal debts (cost g ms) (computed ms)

-- a play from p finishes at no more than this cost, the finish counted, and its Work steps are on some of these vertices, in this order
pub record FinishesWithin (g : PebbleGame) (p : Position) (paid : ℕ) (vertices : List ℕ) : Type 0 where
  pub steps : List Step
  pub finishing : IsFinishing g p steps
  pub costs : total_cost g p steps ≤ paid
  pub works : IsSubsequence (work_vertices steps) vertices

-- each complete pebbling has a play that finishes and costs no more, from each position that follows and owes nothing
abbrev pub PlaysCostNoMore : Type 0
PlaysCostNoMore =
    (g : PebbleGame) → IsDag g.dag → (raw normal : Position) → Follows g raw normal no_debts
    → (ms : List Move) → IsComplete g raw ms → FinishesWithin g normal (cost g ms) (computed ms)

-- and so from the start
abbrev pub PlaysFromStartCostNoMore : Type 0
PlaysFromStartCostNoMore =
    (g : PebbleGame) → IsDag g.dag → (ms : List Move) → IsComplete g (start g) ms → FinishesWithin g (start g) (cost g ms) (computed ms)
