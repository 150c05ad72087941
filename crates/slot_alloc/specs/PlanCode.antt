-- The code of a plan, and the laws of such codes.
use Rattle.std.specs.Prelude.{◌≡◌, ℕ, ◌+◌, ◌*◌, ◌≤◌, ◌<◌, ℤ, List, length}
use Rattle.comp_graph.specs.declared.costs.Weights.{Weights}
use Rattle.comp_graph.specs.Dags.{IsDag}
use Rattle.comp_graph.specs.Graphs.{GraphParts, IsGraph}
use Rattle.comp_graph.specs.Games.{PebbleGame, IsGame, game_on, game_of}
use Rattle.pebble_rules.specs.Rules.{start, IsComplete, cost}
use Rattle.pebble_rules.specs.declared.moves.Move.{Move}
use Rattle.pebble_rules.specs.declared.position.Position.{Position}
use Rattle.pebble_rules.specs.Transfers.{loads, stores}
use Rattle.normal_steps.specs.declared.step.Step.{Step}
use Rattle.normal_steps.specs.Steps.{IsFinishing}
use Rattle.normal_steps.specs.PlanMoves.{play_moves}
use Rattle.normal_steps.specs.Plans.{PlanParts, IsPlan}
use Rattle.scratch_machine.specs.Codes.{CodeParts, IsCode}
use Rattle.scratch_machine.specs.CodePlays.{CodePlays, GivesOutputs}
use Rattle.slot_alloc.specs.Emitted.{code_of}
use Rattle.slot_alloc.specs.Neat.{AreNeat}

-- The moves of a plan. Work loads the missing predecessors in rising number and computes, Drop removes the red pebble, Spill stores
-- before it does; at the end each output that is not blue is stored, in rising number.
abbrev pub plan_moves : PlanParts → List Move
plan_moves plan = play_moves (game_of plan.game) (start (game_of plan.game)) plan.steps

-- the code of its moves, with as many slots as the game has
abbrev pub plan_code : PlanParts → CodeParts
plan_code plan = code_of plan.game.graph plan.game.slots (plan_moves plan)

-- the moves are a complete pebbling with this many slots, whatever a load and a store cost, and place no pebble where one of its colour
-- stands
pub record CanBeEmitted (g : GraphParts) (slots : ℕ) (ms : List Move) : Type 0 where
  pub weights : Weights
  pub complete : IsComplete (game_on g slots weights) (start (game_on g slots weights)) ms
  pub neat : AreNeat (start (game_on g slots weights)) ms

-- ---- laws

-- the code of the moves plays them, keeps the bounds of a code, and has a word for each input and for each store
pub record IsCodeOf (g : GraphParts) (slots : ℕ) (ms : List Move) : Type 0 where
  pub plays : CodePlays g (code_of g slots ms) ms
  pub valid : IsCode (code_of g slots ms)
  pub words : (code_of g slots ms).words ≡ length g.names + stores ms

-- this holds for each complete pebbling that places no pebble where one of its colour stands
abbrev pub EmittedCodePlays : Type 0
EmittedCodePlays = (g : GraphParts) (slots : ℕ) (weights : Weights) (ms : List Move) → IsGraph g → 0 < slots → slots ≤ 64
    → IsComplete (game_on g slots weights) (start (game_on g slots weights)) ms → AreNeat (start (game_on g slots weights)) ms → IsCodeOf g slots ms

-- the moves of a play that finishes place no pebble where one of its colour stands
abbrev pub PlaysAreNeat : Type 0
PlaysAreNeat = (g : PebbleGame) → IsDag g.dag → (p : Position) (ss : List Step) → IsFinishing g p ss → AreNeat p (play_moves g p ss)

-- The moves of a plan are a complete pebbling of its cost, and its code plays them and keeps the bounds of a code. A run on any list of as
-- many values as there are inputs meets no fault, gives the values of the output elements, and makes just the loads and stores of the
-- moves. The load weight times these loads plus the store weight times these stores is what the plan costs.
pub record IsPlanCode (plan : PlanParts) : Type 0 where
  pub complete : IsComplete (game_of plan.game) (start (game_of plan.game)) (plan_moves plan)
  pub costs : cost (game_of plan.game) (plan_moves plan) ≡ plan.total
  pub plays : CodePlays plan.game.graph (plan_code plan) (plan_moves plan)
  pub valid : IsCode (plan_code plan)
  pub words : (plan_code plan).words ≡ length plan.game.graph.names + stores (plan_moves plan)
  pub weighs : plan.game.weights.load * loads (plan_moves plan) + plan.game.weights.store * stores (plan_moves plan) ≡ plan.total
  pub runs : (inputs : List ℤ) → length inputs ≡ length plan.game.graph.names
      → GivesOutputs plan.game.graph (plan_code plan) inputs (loads (plan_moves plan)) (stores (plan_moves plan))

-- this holds for each plan of a game
abbrev pub PlanCodeIsRight : Type 0
PlanCodeIsRight = (plan : PlanParts) → IsGame plan.game → IsPlan plan → IsPlanCode plan
