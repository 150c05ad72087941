-- Which rule a move breaks where it is no move of the game. The rules of 1981 have the numbers 1 (input), 2 (output), 3 (compute) and
-- 4 (delete); that the rule on the number of red pebbles is the fifth, and is asked last, is this project's convention.
use Rattle.std.specs.Prelude.{◌≡◌, ℕ, ◌<◌, ◌⊎◌, List, take, slice_get, Some}
use Rattle.comp_graph.specs.Vertices.{size}
use Rattle.comp_graph.specs.Games.{PebbleGame}
use Rattle.pebble_rules.specs.declared.position.Position.{Position}
use Rattle.pebble_rules.specs.declared.moves.Move.{Move}
use Rattle.pebble_rules.specs.declared.moves.Move.TheVariants.{Load, Store, Compute, DropRed, DropBlue}
use Rattle.pebble_rules.specs.declared.refusal.Rule.{Rule}
use Rattle.pebble_rules.specs.declared.refusal.Rule.TheVariants.{Input, Output, Computation, Deletion, RedPebbles}
use Rattle.pebble_rules.specs.declared.refusal.Illegal.{Illegal}
use Rattle.pebble_rules.specs.declared.replaying.Replayed.{Replayed}
use Rattle.pebble_rules.specs.declared.replaying.BadMove.{BadMove}
use Rattle.pebble_rules.specs.Rules.{start, Needs, moved, IsPebbling, position_after, cost}

-- the vertex that a move names
abbrev pub vertex_of : Move → ℕ
vertex_of (Load v) = v
vertex_of (Store v) = v
vertex_of (Compute v) = v
vertex_of (DropRed v) = v
vertex_of (DropBlue v) = v

-- the rule by which a move goes
abbrev pub rule_of : Move → Rule
rule_of (Load v) = Input
rule_of (Store v) = Output
rule_of (Compute v) = Computation
rule_of (DropRed v) = Deletion
rule_of (DropBlue v) = Deletion

-- the number of a rule
abbrev pub number_of : Rule → ℕ
number_of Input = 1
number_of Output = 2
number_of Computation = 3
number_of Deletion = 4
number_of RedPebbles = 5

-- a rule that a move breaks: its own where it lacks what that rule needs, and else the one on red pebbles, where there would be more
-- than slots
abbrev pub Breaks : PebbleGame → Position → Move → Rule → Type 0
Breaks g p m rule =
    ((rule ≡ rule_of m) × ¬ Needs g p m) ⊎ ((rule ≡ RedPebbles) × Needs g p m × (g.slots < size (moved p m).red))

-- why a move is no move of the game: the vertex that it names, and the rule that it breaks
pub record IsRefused (g : PebbleGame) (p : Position) (m : Move) (why : Illegal) : Type 0 where
  pub vertex : why.vertex ≡ vertex_of m
  pub rule : Breaks g p m why.rule

-- the moves are a pebbling from the start, which ends so and costs so much
pub record IsReplayed (g : PebbleGame) (ms : List Move) (r : Replayed) : Type 0 where
  pub pebbling : IsPebbling g (start g) ms
  pub position : r.position ≡ position_after (start g) ms
  pub cost : r.cost ≡ cost g ms

-- the moves before this one are a pebbling from the start, and it is none of the game's where they lead
pub record IsFirstBad (g : PebbleGame) (ms : List Move) (bad : BadMove) : Type 0 where
  pub move : Move
  pub is_there : slice_get ms bad.at ≡ Some move
  pub before : IsPebbling g (start g) (take bad.at ms)
  pub why : IsRefused g (position_after (start g) (take bad.at ms)) move bad.why
