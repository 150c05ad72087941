-- What `judge` and `tidy` answer to an accepted kernel with enough slots (this project's convention): what the moves of a play file cost,
-- whoever wrote it, and the code of a plan that costs no more; or why the file holds no complete pebbling. A load and a store cost 1.
use Rattle.std.specs.Prelude.{◌≡◌, ◌⊎◌, ◌≤◌, ◌<◌, ◌++◌, ℕ, List, length, codes, Option, None}
use Rattle.std.specs.Fmt.{decimal}
use Rattle.comp_graph.specs.Dags.{degree}
use Rattle.comp_graph.specs.Games.{GameParts, game_of, unit_weights}
use Rattle.comp_graph.specs.Graphs.{GraphParts, dag_of}
use Rattle.desk_io.specs.Known.{ToldFile, TellsFile}
use Rattle.kernel_ast.specs.KernelParts.{KernelParts}
use Rattle.line_texts.specs.BadLines.{IsBadLine}
use Rattle.normal_steps.specs.Plans.{PlanParts, IsPlan}
use Rattle.normal_steps.specs.Steps.{work_vertices}
use Rattle.normal_steps.specs.Subsequences.{IsSubsequence}
use Rattle.pebble_rules.specs.declared.moves.Move.{Move}
use Rattle.pebble_rules.specs.Refusals.{number_of}
use Rattle.pebble_rules.specs.Rules.{start, IsComplete, computed, cost as moves_cost}
use Rattle.play_files.specs.declared.judging.PlayFault.{PlayFault}
use Rattle.play_files.specs.declared.judging.PlayFault.TheVariants.{Bad, Incomplete}
use Rattle.play_files.specs.Followed.{AreStepsOf}
use Rattle.play_files.specs.Judging.{IsPlayFault}
use Rattle.play_files.specs.PlayTexts.{ArePlayLines, ReadsAs}
use Rattle.scratch_code.specs.CodeText.{code_text}
use Rattle.slot_alloc.specs.PlanCode.{plan_code}
use Rattle.command_answers.specs.declared.status.Status.{Status}
use Rattle.command_answers.specs.declared.status.Status.TheVariants.{Done, Play}
use Rattle.command_answers.specs.Accepted.{IsAccepted}
use Rattle.command_answers.specs.PlayedGames.{game_parts}
use Rattle.command_answers.specs.RightCodes.{IsRightCode}

-- the game that a play is judged by
abbrev pub game_judged : GraphParts → ℕ → GameParts
game_judged graph slots = game_parts graph slots unit_weights

-- ---- the texts

-- the line for a file that is no play text, with the number of its bad line, which is 0 where it has too many bytes
abbrev pub bad_line_text : ℕ → List ℕ
bad_line_text line = codes "play fault line " ++ (decimal line ++ codes "\n")

-- the line for moves that are no complete pebbling: the place of the first bad move, counted from 0, with the number of the rule that it
-- breaks and its vertex; or the least output that is not blue at the end
abbrev pub play_fault_text : PlayFault → List ℕ
play_fault_text (Bad at rule vertex) =
    codes "play fault move " ++ (decimal at ++ (codes " rule " ++ (decimal (number_of rule) ++ (codes " vertex " ++ (decimal vertex ++ codes "\n")))))
play_fault_text (Incomplete vertex) = codes "play incomplete vertex " ++ (decimal vertex ++ codes "\n")

-- the line for a complete pebbling, with its cost
abbrev pub complete_text : ℕ → List ℕ
complete_text cost = codes "play complete cost " ++ (decimal cost ++ codes "\n")

-- the cost of a play and the cost of a plan, as comments, and the code of the plan
abbrev pub tidied_text : ℕ → PlanParts → List ℕ
tidied_text cost plan = (codes "; play " ++ (decimal cost ++ (codes "\n; cost " ++ (decimal plan.total ++ codes "\n")))) ++ code_text (plan_code plan)

-- ---- the file

-- the bytes are a play file of the game: at most 20,000,000 bytes, which read as these moves of its vertices
pub record IsPlayFile (game : GameParts) (bytes : List ℕ) (moves : List Move) : Type 0 where
  pub short : length bytes ≤ 20000000
  pub reads : ReadsAs (length game.graph.nodes) bytes moves

-- the moves of a play file are a complete pebbling of the game, of this cost
pub record HoldsPlay (game : GameParts) (bytes : List ℕ) (moves : List Move) (cost : ℕ) : Type 0 where
  pub file : IsPlayFile game bytes moves
  pub complete : IsComplete (game_of game) (start (game_of game)) moves
  pub costs : cost ≡ moves_cost (game_of game) moves

-- The bytes hold no complete pebbling of the game, and this line says why: they are more than 20,000,000, or they are no play text, or
-- the moves of the play file have a fault.
pub data HoldsNoPlay (game : GameParts) (bytes printed : List ℕ) : Type 0 where
  too_long : 20000000 < length bytes → printed ≡ bad_line_text 0 → HoldsNoPlay game bytes printed
  no_text : (line : ℕ) → length bytes ≤ 20000000 → IsBadLine (ArePlayLines (length game.graph.nodes)) bytes line → printed ≡ bad_line_text line → HoldsNoPlay game bytes printed
  faulty : (moves : List Move) (fault : PlayFault) → IsPlayFile game bytes moves → IsPlayFault (game_of game) moves fault → printed ≡ play_fault_text fault → HoldsNoPlay game bytes printed

-- ---- the plan

-- the plan of the game that follows the moves: it costs no more than they, and works on vertices that they compute, in the same order
pub record IsTidyPlan (game : GameParts) (moves : List Move) (plan : PlanParts) : Type 0 where
  pub of_game : plan.game ≡ game
  pub valid : IsPlan plan
  pub no_more : plan.total ≤ moves_cost (game_of game) moves
  pub works : IsSubsequence (work_vertices plan.steps) (computed moves)
  pub steps : AreStepsOf (game_of game) moves plan.steps

-- ---- the answers

-- The text is accepted, there are more slots than the degree of its graph, the file holds a complete pebbling of the graph with these
-- slots, and its cost is printed. No table is written.
pub record IsJudged (slots : ℕ) (text : List ℕ) (file : ToldFile) (status : Status) (printed : List ℕ) (table : Option (List ℕ)) : Type 0 where
  pub kernel : KernelParts
  pub graph : GraphParts
  pub accepted : IsAccepted text kernel graph
  pub room : degree (dag_of graph) < slots
  pub bytes : List ℕ
  pub held : TellsFile file bytes
  pub moves : List Move
  pub cost : ℕ
  pub holds : HoldsPlay (game_judged graph slots) bytes moves cost
  pub ends : status ≡ Done
  pub line : printed ≡ complete_text cost
  pub none : table ≡ None

-- The text is accepted, there are more slots than the degree of its graph, the file holds a complete pebbling of the graph with these
-- slots, and the plan that follows it costs no more. Both costs are printed, and the plan's code, which is right. No table is written.
pub record IsTidied (slots : ℕ) (text : List ℕ) (file : ToldFile) (status : Status) (printed : List ℕ) (table : Option (List ℕ)) : Type 0 where
  pub kernel : KernelParts
  pub graph : GraphParts
  pub accepted : IsAccepted text kernel graph
  pub room : degree (dag_of graph) < slots
  pub bytes : List ℕ
  pub held : TellsFile file bytes
  pub moves : List Move
  pub cost : ℕ
  pub holds : HoldsPlay (game_judged graph slots) bytes moves cost
  pub plan : PlanParts
  pub tidy : IsTidyPlan (game_judged graph slots) moves plan
  pub code : IsRightCode kernel (game_judged graph slots) (plan_code plan) plan.total
  pub ends : status ≡ Done
  pub lines : printed ≡ tidied_text cost plan
  pub none : table ≡ None

-- The text is accepted, there are more slots than the degree of its graph, and the file holds no complete pebbling of the graph with these
-- slots. A line says why. No table is written.
pub record IsNoPlay (slots : ℕ) (text : List ℕ) (file : ToldFile) (status : Status) (printed : List ℕ) (table : Option (List ℕ)) : Type 0 where
  pub kernel : KernelParts
  pub graph : GraphParts
  pub accepted : IsAccepted text kernel graph
  pub room : degree (dag_of graph) < slots
  pub bytes : List ℕ
  pub held : TellsFile file bytes
  pub holds_none : HoldsNoPlay (game_judged graph slots) bytes printed
  pub ends : status ≡ Play
  pub none : table ≡ None

-- the answers of `judge` to a file, as far as the desk tells the file
abbrev pub Judges : ℕ → List ℕ → ToldFile → Status → List ℕ → Option (List ℕ) → Type 0
Judges slots text file status printed table = IsJudged slots text file status printed table ⊎ IsNoPlay slots text file status printed table

-- the answers of `tidy`
abbrev pub Tidies : ℕ → List ℕ → ToldFile → Status → List ℕ → Option (List ℕ) → Type 0
Tidies slots text file status printed table = IsTidied slots text file status printed table ⊎ IsNoPlay slots text file status printed table
