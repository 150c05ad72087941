-- What `check` answers to an accepted kernel with enough slots (this project's convention): the bound that a table proves, whoever made the
-- table, or why the file proves none.
use Rattle.std.specs.Prelude.{◌≡◌, ◌⊎◌, ◌≤◌, ◌<◌, ◌++◌, ℕ, List, length, codes, Option, None}
use Rattle.std.specs.Fmt.{decimal}
use Rattle.comp_graph.specs.Dags.{degree}
use Rattle.comp_graph.specs.Games.{PebbleGame}
use Rattle.comp_graph.specs.Graphs.{GraphParts, dag_of}
use Rattle.cert_checker.specs.declared.refusal.Reason.{Reason}
use Rattle.cert_checker.specs.Refusals.{IsRefusal, number_of_reason}
use Rattle.desk_io.specs.Known.{ToldFile, TellsFile}
use Rattle.kernel_ast.specs.KernelParts.{KernelParts}
use Rattle.pebble_rules.specs.declared.moves.Move.{Move}
use Rattle.pebble_rules.specs.Rules.{start, IsComplete, cost as moves_cost}
use Rattle.potential_cert.specs.GameTables.{IsTableOf}
use Rattle.potential_cert.specs.Table.{TableParts}
use Rattle.potential_cert.specs.TableBytes.{IsSpelling}
use Rattle.command_words.specs.declared.commands.Checking.{Checking}
use Rattle.command_answers.specs.declared.check.Checked.{Checked}
use Rattle.command_answers.specs.declared.check.Checked.TheVariants as checks
use Rattle.command_answers.specs.declared.status.Status.{Status}
use Rattle.command_answers.specs.declared.status.Status.TheVariants.{Done, Refused}
use Rattle.command_answers.specs.Accepted.{IsAccepted}
use Rattle.command_answers.specs.PlayedGames.{played_on}

-- the line for the bound of a table that is accepted
abbrev pub accepted_text : ℕ → List ℕ
accepted_text bound = codes "accepted bound " ++ (decimal bound ++ codes "\n")

-- the line for a file that is refused, with the number of the reason and the row
abbrev pub refused_text : ℕ → ℕ → List ℕ
refused_text reason row = codes "refused reason " ++ (decimal reason ++ (codes " row " ++ (decimal row ++ codes "\n")))

-- the bytes are a table file: at most 20,000,000 bytes, which spell this table
pub record IsTableFile (bytes : List ℕ) (t : TableParts) : Type 0 where
  pub short : length bytes ≤ 20000000
  pub spelled : IsSpelling bytes t

-- the bytes are no table file
abbrev pub IsNoTableFile : List ℕ → Type 0
IsNoTableFile bytes = (t : TableParts) → IsTableFile bytes t → ⊥

-- The bytes are a table file of the game: its table has the game's numbers of vertices and slots and its weights, and its rows strictly rise
-- and are valid with its bound.
pub record IsCertificate (g : PebbleGame) (bytes : List ℕ) (t : TableParts) : Type 0 where
  pub file : IsTableFile bytes t
  pub of_game : IsTableOf g t

-- The bytes are refused for the reason of this number, by this row: they are no table file, which is reason 1, by row 0; or they are one, and
-- its table gives this reason first, and this row is the least that does.
pub data IsRefused (g : PebbleGame) (bytes : List ℕ) (reason row : ℕ) : Type 0 where
  no_table : IsNoTableFile bytes → reason ≡ 1 → row ≡ 0 → IsRefused g bytes reason row
  broken : (t : TableParts) (why : Reason) → IsTableFile bytes t → IsRefusal g t why row → reason ≡ number_of_reason why → IsRefused g bytes reason row

-- the bytes are a table file of the game, with this bound
pub record IsAcceptedWith (g : PebbleGame) (bytes : List ℕ) (bound : ℕ) : Type 0 where
  pub certificate : TableParts
  pub certifies : IsCertificate g bytes certificate
  pub same : bound ≡ certificate.bound

-- what the bytes prove of the game: the bound of their table, or why they are refused
abbrev pub IsCheckOf : PebbleGame → List ℕ → Checked → Type 0
IsCheckOf g bytes (checks.Accepted bound) = IsAcceptedWith g bytes bound
IsCheckOf g bytes (checks.Refused reason row) = IsRefused g bytes reason row

-- what the file proves of it, as far as the desk tells the file
pub record IsCheckOfFile (g : PebbleGame) (file : ToldFile) (checked : Checked) : Type 0 where
  pub bytes : List ℕ
  pub held : TellsFile file bytes
  pub proves : IsCheckOf g bytes checked

-- The text is accepted, there are more slots than the degree of its graph, the file is a table file of the game, and its bound is printed:
-- no complete pebbling costs less, whoever made the file. No table is written.
pub record IsCertified (asked : Checking) (text : List ℕ) (file : ToldFile) (status : Status) (printed : List ℕ) (table : Option (List ℕ)) : Type 0 where
  pub kernel : KernelParts
  pub graph : GraphParts
  pub accepted : IsAccepted text kernel graph
  pub room : degree (dag_of graph) < asked.slots
  pub bytes : List ℕ
  pub held : TellsFile file bytes
  pub certificate : TableParts
  pub certifies : IsCertificate (played_on graph asked.slots asked.weights) bytes certificate
  pub lowest : (moves : List Move) → IsComplete (played_on graph asked.slots asked.weights) (start (played_on graph asked.slots asked.weights)) moves
      → certificate.bound ≤ moves_cost (played_on graph asked.slots asked.weights) moves
  pub ends : status ≡ Done
  pub line : printed ≡ accepted_text certificate.bound
  pub none : table ≡ None

-- The text is accepted, there are more slots than the degree of its graph, and the file is refused for a reason and by a row, which are
-- printed. No table is written.
pub record IsRefusedFile (asked : Checking) (text : List ℕ) (file : ToldFile) (status : Status) (printed : List ℕ) (table : Option (List ℕ)) : Type 0 where
  pub kernel : KernelParts
  pub graph : GraphParts
  pub accepted : IsAccepted text kernel graph
  pub room : degree (dag_of graph) < asked.slots
  pub bytes : List ℕ
  pub held : TellsFile file bytes
  pub reason : ℕ
  pub row : ℕ
  pub refused : IsRefused (played_on graph asked.slots asked.weights) bytes reason row
  pub ends : status ≡ Refused
  pub line : printed ≡ refused_text reason row
  pub none : table ≡ None

-- the two answers to the check of a file, as far as the desk tells the file
abbrev pub Checks : Checking → List ℕ → ToldFile → Status → List ℕ → Option (List ℕ) → Type 0
Checks asked text file status printed table = IsCertified asked text file status printed table ⊎ IsRefusedFile asked text file status printed table
