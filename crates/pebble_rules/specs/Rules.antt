-- The red-blue pebble game by the rules of 1981 (Hong and Kung): positions, moves, pebblings and their cost. This project's
-- conventions are that the game names its inputs and its outputs; that an input is never computed, and any other vertex without
-- predecessors may be computed at any time; that an output that is an input is blue from the start; that placing a pebble where
-- one stands is allowed and paid; and that a pebbling is complete when each output is blue at its end, whatever other pebbles
-- are left. A game names what a load and a store cost: by the rules of 1981 each costs 1.
use Rattle.std.specs.Prelude.{ℕ, ◌+◌, ◌≤◌, ◌<◌, List, [], ◌∷◌, ⊤}
use Rattle.std.specs.FinSet as set
use Rattle.comp_graph.specs.Vertices.{◌∈◌, ◌∉◌, IsWithin, size}
use Rattle.comp_graph.specs.Games.{PebbleGame}
use Rattle.pebble_rules.specs.declared.position.Position.{Position}
use Rattle.pebble_rules.specs.declared.moves.Move.{Move}
use Rattle.pebble_rules.specs.declared.moves.Move.TheVariants.{Load, Store, Compute, DropRed, DropBlue}

-- no red pebble, and a blue one on each input
abbrev pub start : PebbleGame → Position
start g = record { red = set.empty; blue = g.dag.inputs }

-- a vertex is computed where it is no input and all its predecessors are red
pub record CanCompute (g : PebbleGame) (p : Position) (v : ℕ) : Type 0 where
  pub vertex : v < g.dag.count
  pub no_input : v ∉ g.dag.inputs
  pub preds_red : IsWithin (g.dag.preds v) p.red

-- what a move needs: a load a blue pebble, a store a red one, a computation the vertex's predecessors, a removal the pebble
abbrev pub Needs : PebbleGame → Position → Move → Type 0
Needs g p (Load v) = v ∈ p.blue
Needs g p (Store v) = v ∈ p.red
Needs g p (Compute v) = CanCompute g p v
Needs g p (DropRed v) = v ∈ p.red
Needs g p (DropBlue v) = v ∈ p.blue

-- the position after a move: it places or removes one pebble
abbrev pub moved : Position → Move → Position
moved p (Load v) = record { red = set.insert p.red v; blue = p.blue }
moved p (Store v) = record { red = p.red; blue = set.insert p.blue v }
moved p (Compute v) = record { red = set.insert p.red v; blue = p.blue }
moved p (DropRed v) = record { red = set.remove p.red v; blue = p.blue }
moved p (DropBlue v) = record { red = p.red; blue = set.remove p.blue v }

-- a move is allowed where it has what it needs, and leaves no more red pebbles than there are slots
pub record IsMove (g : PebbleGame) (p : Position) (m : Move) : Type 0 where
  pub needs : Needs g p m
  pub fits : size (moved p m).red ≤ g.slots

-- what a move costs: only loads and stores do, by the game's weights
abbrev pub move_cost : PebbleGame → Move → ℕ
move_cost g (Load v) = g.load
move_cost g (Store v) = g.store
move_cost g (Compute v) = 0
move_cost g (DropRed v) = 0
move_cost g (DropBlue v) = 0

-- the position after a list of moves
abbrev pub position_after : Position → List Move → Position
position_after p [] = p
position_after p (m ∷ ms) = position_after (moved p m) ms

-- a pebbling from p: each move of the list is allowed where it stands
abbrev pub IsPebbling : PebbleGame → Position → List Move → Type 0
IsPebbling g p [] = ⊤
IsPebbling g p (m ∷ ms) = IsMove g p m × IsPebbling g (moved p m) ms

-- the sum of the moves' costs
abbrev pub cost : PebbleGame → List Move → ℕ
cost g [] = 0
cost g (m ∷ ms) = move_cost g m + cost g ms

-- a pebbling from p that ends with each output blue
pub record IsComplete (g : PebbleGame) (p : Position) (ms : List Move) : Type 0 where
  pub pebbling : IsPebbling g p ms
  pub outputs_blue : IsWithin g.dag.outputs (position_after p ms).blue

-- these vertices, with the one in front that the move computes, if it computes one
abbrev pub computed_by : Move → List ℕ → List ℕ
computed_by (Compute v) vs = v ∷ vs
computed_by (Load v) vs = vs
computed_by (Store v) vs = vs
computed_by (DropRed v) vs = vs
computed_by (DropBlue v) vs = vs

-- the vertices of the Compute moves, in order
abbrev pub computed : List Move → List ℕ
computed [] = []
computed (m ∷ ms) = computed_by m (computed ms)
