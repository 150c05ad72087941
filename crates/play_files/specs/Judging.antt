-- Why a list of moves is no complete pebbling: its first bad move, or the least output that is not blue at its end.
use Rattle.std.specs.Prelude.{◌≡◌, ◌⊎◌, List}
use Rattle.std.specs.FinSet as set
use Rattle.comp_graph.specs.Dags.{IsDag}
use Rattle.comp_graph.specs.Vertices.{IsLeast}
use Rattle.comp_graph.specs.Games.{PebbleGame}
use Rattle.pebble_rules.specs.Rules.{start, IsPebbling, IsComplete, position_after}
use Rattle.pebble_rules.specs.Refusals.{IsFirstBad}
use Rattle.pebble_rules.specs.declared.moves.Move.{Move}
use Rattle.pebble_rules.specs.declared.replaying.BadMove.{BadMove}
use Rattle.play_files.specs.declared.judging.PlayFault.{PlayFault}
use Rattle.play_files.specs.declared.judging.PlayFault.TheVariants.{Bad, Incomplete}

-- a fault is the first bad move, by its place, the rule that it breaks and the vertex that it names; or, where no move is bad, the least
-- output that is not blue at the end
abbrev pub IsPlayFault : PebbleGame → List Move → PlayFault → Type 0
IsPlayFault g ms (Bad at rule vertex) = (bad : BadMove) × IsFirstBad g ms bad × (at ≡ bad.at) × (rule ≡ bad.why.rule) × (vertex ≡ bad.why.vertex)
IsPlayFault g ms (Incomplete vertex) = IsPebbling g (start g) ms × IsLeast (set.difference g.dag.outputs (position_after (start g) ms).blue) vertex

-- a list of moves with a fault is no complete pebbling
abbrev pub FaultsAreOfNoPebbling : Type 0
FaultsAreOfNoPebbling = (g : PebbleGame) (ms : List Move) (fault : PlayFault) → IsPlayFault g ms fault → ¬ IsComplete g (start g) ms

-- a list of moves has one fault at most
abbrev pub OneFault : Type 0
OneFault = (g : PebbleGame) (ms : List Move) (fault other : PlayFault) → IsPlayFault g ms fault → IsPlayFault g ms other → fault ≡ other

-- each list of moves is a complete pebbling or has a fault
abbrev pub CompleteOrFaulty : Type 0
CompleteOrFaulty = (g : PebbleGame) → IsDag g.dag → (ms : List Move) → IsComplete g (start g) ms ⊎ ((fault : PlayFault) × IsPlayFault g ms fault)
