-- Where each status of `judge` and `tidy` stands, over the definitions alone.
use Rattle.std.specs.Prelude.{◌≡◌, ◌⊎◌, ℕ, ◌<◌, List, Option, Some}
use Rattle.comp_graph.specs.Dags.{degree}
use Rattle.comp_graph.specs.Games.{GameParts}
use Rattle.comp_graph.specs.Graphs.{GraphParts, IsGraph, dag_of}
use Rattle.kernel_ast.specs.KernelParts.{KernelParts}
use Rattle.pebble_rules.specs.declared.moves.Move.{Move}
use Rattle.command_words.specs.declared.commands.Command.{Command}
use Rattle.command_words.specs.declared.commands.Command.TheVariants.{Judge, Tidy}
use Rattle.command_answers.specs.declared.status.Status.{Status}
use Rattle.command_answers.specs.declared.status.Status.TheVariants.{Done, Play}
use Rattle.command_answers.specs.Accepted.{IsAccepted}
use Rattle.command_answers.specs.PlayAnswers.{HoldsPlay, HoldsNoPlay, IsJudged, IsTidied, IsNoPlay, complete_text, game_judged}
use Rattle.desk_io.specs.Known.{ToldFile}
use Rattle.pebble_cli.specs.AnswerLaws.{RefusedOr}
use Rattle.pebble_cli.specs.Answers.{Answers}

-- The answers of `judge`: a kernel's fault, too few slots, the cost of the play in the file, or why it is no complete pebbling.
abbrev pub JudgeStatuses : Type 0
JudgeStatuses = (slots : ℕ) (input : List ℕ) (file : ToldFile) (status : Status) (printed : List ℕ) (table : Option (List ℕ))
    → Answers (Some (Judge slots)) input file status printed table
    → RefusedOr input slots status printed table
    (((status ≡ Done) × IsJudged slots input file status printed table) ⊎ ((status ≡ Play) × IsNoPlay slots input file status printed table))

-- The answers of `tidy`: the same with a plan that costs no more in place of the cost alone.
abbrev pub TidyStatuses : Type 0
TidyStatuses = (slots : ℕ) (input : List ℕ) (file : ToldFile) (status : Status) (printed : List ℕ) (table : Option (List ℕ))
    → Answers (Some (Tidy slots)) input file status printed table
    → RefusedOr input slots status printed table
    (((status ≡ Done) × IsTidied slots input file status printed table) ⊎ ((status ≡ Play) × IsNoPlay slots input file status printed table))

-- Something holds of each answer of a command with these slots to an accepted kernel with more slots than the degree of its graph, and a file
-- with these bytes.
abbrev pub OfPlays : (ℕ → Command) → (GameParts → List ℕ → Status → List ℕ → Type 0) → Type 0
OfPlays command P = (slots : ℕ) (input bytes : List ℕ) (status : Status) (printed : List ℕ) (table : Option (List ℕ)) (kernel : KernelParts) (graph : GraphParts)
    → Answers (Some (command slots)) input (Some (Some bytes)) status printed table → IsAccepted input kernel graph
    → degree (dag_of graph) < slots → P (game_judged graph slots) bytes status printed

-- It is Done where the file holds a complete pebbling, and `judge` prints its cost; and Play with the line where the file holds none.
abbrev pub JudgedWherePlayed : Type 0
JudgedWherePlayed = OfPlays Judge (λ game bytes status printed. (moves : List Move) (cost : ℕ) → HoldsPlay game bytes moves cost → (status ≡ Done) × (printed ≡ complete_text cost))

abbrev pub JudgedWhereNot : Type 0
JudgedWhereNot = OfPlays Judge (λ game bytes status printed. (line : List ℕ) → HoldsNoPlay game bytes line → (status ≡ Play) × (printed ≡ line))

abbrev pub TidiedWherePlayed : Type 0
TidiedWherePlayed = OfPlays Tidy (λ game bytes status printed. (moves : List Move) (cost : ℕ) → HoldsPlay game bytes moves cost → status ≡ Done)

abbrev pub TidiedWhereNot : Type 0
TidiedWhereNot = OfPlays Tidy (λ game bytes status printed. (line : List ℕ) → HoldsNoPlay game bytes line → (status ≡ Play) × (printed ≡ line))

-- Each file holds a complete pebbling of the game on a graph, or a line says why it holds none.
abbrev pub PlayedOrNot : Type 0
PlayedOrNot = (game : GameParts) → IsGraph game.graph → (bytes : List ℕ)
    → ((moves : List Move) × (cost : ℕ) × HoldsPlay game bytes moves cost) ⊎ ((line : List ℕ) × HoldsNoPlay game bytes line)
