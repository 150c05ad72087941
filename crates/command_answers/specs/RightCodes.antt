-- What is promised of each code that is printed: it is right on all inputs, with loads and stores that weigh exactly what is said, and it plays
-- a complete pebbling of that cost.
use Rattle.std.specs.Prelude.{◌≡◌, ℕ, ℤ, ◌+◌, ◌*◌, List, length, map, Ok}
use Rattle.comp_graph.specs.declared.costs.Weights.{Weights}
use Rattle.comp_graph.specs.Games.{GameParts, game_of}
use Rattle.pebble_rules.specs.declared.moves.Move.{Move}
use Rattle.pebble_rules.specs.Rules.{start, IsComplete, cost as moves_cost}
use Rattle.kernel_ast.specs.declared.tree.DeclKind.TheVariants.{Input, Output}
use Rattle.kernel_ast.specs.KernelParts.{KernelParts}
use Rattle.kernel_ast.specs.Labels.{labels_of}
use Rattle.kernel_ast.specs.Meaning.{outputs as source_outputs}
use Rattle.scratch_machine.specs.declared.code.OutWord.{OutWord}
use Rattle.scratch_machine.specs.Codes.{CodeParts, IsCode}
use Rattle.scratch_machine.specs.Machines.{Ending, run}
use Rattle.scratch_machine.specs.CodePlays.{CodePlays}

-- what the loads and stores of a run weigh together
abbrev pub run_weight : Weights → Ending → ℕ
run_weight weights ending = weights.load * ending.loads + weights.store * ending.stores

-- On these values of the inputs the run of the code meets no empty slot or word, gives the outputs of the source, and makes loads and
-- stores that weigh exactly this much.
pub record RunsRight (kernel : KernelParts) (weights : Weights) (code : CodeParts) (weight : ℕ) (values : List ℤ) : Type 0 where
  pub ending : Ending
  pub runs : run code values ≡ Ok ending
  pub same : ending.outputs ≡ source_outputs kernel values
  pub counted : run_weight weights ending ≡ weight

-- there is a complete pebbling of this cost that the code plays, by the rules of the game
pub record PlaysPebbling (game : GameParts) (code : CodeParts) (cost : ℕ) : Type 0 where
  pub moves : List Move
  pub complete : IsComplete (game_of game) (start (game_of game)) moves
  pub costs : moves_cost (game_of game) moves ≡ cost
  pub plays : CodePlays game.graph code moves

-- The code answers a kernel by the slots and the weights of the game, with loads and stores that weigh this much.
pub record IsRightCode (kernel : KernelParts) (game : GameParts) (code : CodeParts) (weight : ℕ) : Type 0 where
  -- the code has these slots, names no slot or word that it has not, and has the labels of the kernel's input and output elements,
  -- in order of declaration and row by row
  pub slots : code.slots ≡ game.slots
  pub bounds : IsCode code
  pub inputs : code.inputs ≡ labels_of Input kernel.decls
  pub outputs : map (λ (o : OutWord). o.label) code.outputs ≡ labels_of Output kernel.decls
  -- the code is right on every list of as many values as the kernel has input elements, those of 64 bits among them, with loads and
  -- stores of exactly this weight
  pub right : (values : List ℤ) → length values ≡ length (labels_of Input kernel.decls) → RunsRight kernel game.weights code weight values
  -- the code plays a complete pebbling of this cost, so an operation never writes over the slot of an operand
  pub played : PlaysPebbling game code weight
