-- What `covercheck` answers to an accepted kernel with enough slots (this project's convention): the bound that a covered table proves,
-- whoever made the table, or why the file proves none. A load and a store cost 1. The lines are those of `check`.
use Rattle.std.specs.Prelude.{◌≡◌, ◌⊎◌, ◌≤◌, ◌<◌, ℕ, List, length, Option, None}
use Rattle.comp_graph.specs.Dags.{IsDag, degree}
use Rattle.comp_graph.specs.Games.{PebbleGame, unit_weights}
use Rattle.comp_graph.specs.Graphs.{GraphParts, dag_of}
use Rattle.cert_checker.specs.declared.refusal.Reason.{Reason}
use Rattle.cert_checker.specs.Refusals.{number_of_reason}
use Rattle.cover_cert.specs.CoverBytes.{IsCoverSpelling}
use Rattle.cover_cert.specs.CoverTable.{CoverTableParts, IsCoverTableOf}
use Rattle.cover_cert.specs.Refusals.{IsCoverRefusal}
use Rattle.desk_io.specs.Known.{ToldFile, TellsFile}
use Rattle.kernel_ast.specs.KernelParts.{KernelParts}
use Rattle.pebble_rules.specs.declared.moves.Move.{Move}
use Rattle.pebble_rules.specs.Rules.{start, IsComplete, cost as moves_cost}
use Rattle.command_answers.specs.declared.status.Status.{Status}
use Rattle.command_answers.specs.declared.status.Status.TheVariants.{Done, Refused}
use Rattle.command_answers.specs.Accepted.{IsAccepted}
use Rattle.command_answers.specs.CheckAnswers.{accepted_text, refused_text}
use Rattle.command_answers.specs.PlayedGames.{played_on}

-- the bytes are a covered table file: at most 20,000,000 bytes, which spell this covered table
pub record IsCoverFile (bytes : List ℕ) (t : CoverTableParts) : Type 0 where
  pub short : length bytes ≤ 20000000
  pub spelled : IsCoverSpelling bytes t

-- the bytes are no covered table file
abbrev pub IsNoCoverFile : List ℕ → Type 0
IsNoCoverFile bytes = (t : CoverTableParts) → IsCoverFile bytes t → ⊥

-- The bytes are a covered table file of the game: its table has the game's numbers of vertices and slots and its weights, its rows strictly
-- rise, their names are good, and they support its bound.
pub record IsCoverCertificate (g : PebbleGame) (bytes : List ℕ) (t : CoverTableParts) : Type 0 where
  pub file : IsCoverFile bytes t
  pub of_game : IsCoverTableOf g t

-- The bytes are refused for the reason of this number, by this row: they are no covered table file, which is reason 1, by row 0; or they are
-- one, and its table gives this reason first, and this row is the least that does.
pub data IsCoverRefused (g : PebbleGame) (bytes : List ℕ) (reason row : ℕ) : Type 0 where
  no_table : IsNoCoverFile bytes → reason ≡ 1 → row ≡ 0 → IsCoverRefused g bytes reason row
  broken : (t : CoverTableParts) (why : Reason) → IsCoverFile bytes t → IsCoverRefusal g t why row → reason ≡ number_of_reason why → IsCoverRefused g bytes reason row

-- The text is accepted, there are more slots than the degree of its graph, the file is a covered table file of the game, and its bound is
-- printed: no complete pebbling costs less, whoever made the file. No table is written.
pub record IsCoverCertified (slots : ℕ) (text : List ℕ) (file : ToldFile) (status : Status) (printed : List ℕ) (table : Option (List ℕ)) : Type 0 where
  pub kernel : KernelParts
  pub graph : GraphParts
  pub accepted : IsAccepted text kernel graph
  pub room : degree (dag_of graph) < slots
  pub bytes : List ℕ
  pub held : TellsFile file bytes
  pub certificate : CoverTableParts
  pub certifies : IsCoverCertificate (played_on graph slots unit_weights) bytes certificate
  pub lowest : (moves : List Move) → IsComplete (played_on graph slots unit_weights) (start (played_on graph slots unit_weights)) moves
      → certificate.bound ≤ moves_cost (played_on graph slots unit_weights) moves
  pub ends : status ≡ Done
  pub line : printed ≡ accepted_text certificate.bound
  pub none : table ≡ None

-- The text is accepted, there are more slots than the degree of its graph, and the file is refused for a reason and by a row, which are
-- printed. No table is written.
pub record IsCoverRefusedFile (slots : ℕ) (text : List ℕ) (file : ToldFile) (status : Status) (printed : List ℕ) (table : Option (List ℕ)) : Type 0 where
  pub kernel : KernelParts
  pub graph : GraphParts
  pub accepted : IsAccepted text kernel graph
  pub room : degree (dag_of graph) < slots
  pub bytes : List ℕ
  pub held : TellsFile file bytes
  pub reason : ℕ
  pub row : ℕ
  pub refused : IsCoverRefused (played_on graph slots unit_weights) bytes reason row
  pub ends : status ≡ Refused
  pub line : printed ≡ refused_text reason row
  pub none : table ≡ None

-- the two answers to the check of a file, as far as the desk tells the file
abbrev pub CoverChecks : ℕ → List ℕ → ToldFile → Status → List ℕ → Option (List ℕ) → Type 0
CoverChecks slots text file status printed table = IsCoverCertified slots text file status printed table ⊎ IsCoverRefusedFile slots text file status printed table

-- each file is a covered table file of the game, or is refused for a reason and by a row
abbrev pub CoverFileIsJudged : PebbleGame → List ℕ → Type 0
CoverFileIsJudged g bytes = ((t : CoverTableParts) × IsCoverCertificate g bytes t) ⊎ ((reason : ℕ) × (row : ℕ) × IsCoverRefused g bytes reason row)

abbrev pub CoverFilesAreJudged : Type 0
CoverFilesAreJudged = (g : PebbleGame) → IsDag g.dag → (bytes : List ℕ) → CoverFileIsJudged g bytes
