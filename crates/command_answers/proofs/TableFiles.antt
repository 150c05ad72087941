-- What `check` answers to the bytes of a file.
use Rattle.std.proofs.Common.{◌≡◌, ◌<◌, ℕ, List, length, Result, Ok, Err, IfOk, inl, inr, refl, sym, ap, ◌∙◌, subst, arith}
use Rattle.std.specs.Prelude.{None, Option, Vec}
use Rattle.std.specs.declared.alloc.Global.{Global}
use Rattle.comp_graph.specs.Dags.{degree}
use Rattle.comp_graph.specs.Games.{GameParts, PebbleGame, game_of}
use Rattle.comp_graph.specs.Graphs.{GraphParts, dag_of}
use Rattle.desk_io.specs.Known.{ToldFile, TellsFile, file_items}
use Rattle.kernel_ast.specs.KernelParts.{KernelParts}
use Rattle.potential_cert.specs.Table.{TableParts}
use Rattle.command_answers.specs.declared.answer.Answer.{Answer}
use Rattle.command_answers.specs.declared.check.Checked.{Checked}
use Rattle.command_answers.specs.declared.check.Checked.TheVariants as checks
use Rattle.command_answers.specs.declared.answer.FileBytes.{FileBytes}
use Rattle.command_answers.specs.declared.answer.FileBytes.TheVariants.{Whole, TooLong}
use Rattle.command_words.specs.declared.commands.Checking.{Checking}
use Rattle.command_answers.specs.declared.status.Status.TheVariants.{Done, Refused}
use Rattle.command_answers.specs.Accepted.{IsAccepted}
use Rattle.command_answers.specs.CheckAnswers.{Checks, IsCertificate, IsCertified, IsCheckOf, IsCheckOfFile, IsNoTableFile, IsRefusedFile, accepted_text, no_table, refused_text}
use Rattle.command_answers.specs.MadeAnswers.{Meets, IsFileOf}
use Rattle.command_answers.specs.PlayedGames.{played_on}
use Rattle.command_answers.proofs.ToldBytes.{told_more_file}
use Rattle.comp_graph.proofs.GraphLaws.{IsDag-dag_of}
use Rattle.forced_bounds.proofs.Below.{floor_is_below_plays}
use Rattle.normal_steps.proofs.Simulation.{plays_from_start_cost_no_more}
use Rattle.potential_cert.proofs.Bound.{bound_is_below_pebblings}
use Rattle.command_answers.specs.declared.status.Status.{Status}
use Rattle.command_answers.proofs.Accepting.{accepted_graph}

-- the bound of a table file of the game is at most the cost of each complete pebbling
pub is_certified : (asked : Checking) (text : List ℕ) (file : ToldFile) (kernel : KernelParts) (graph : GraphParts) (bytes : List ℕ) (t : TableParts)
    (status : Status) (printed : List ℕ) (table : Option (List ℕ)) → status ≡ Done → printed ≡ accepted_text t.bound → table ≡ None → IsCertificate (played_on graph asked.slots asked.weights) bytes t
    → degree (dag_of graph) < asked.slots → IsAccepted text kernel graph → TellsFile file bytes → IsCertified asked text file status printed table
is_certified asked text file kernel graph bytes t status printed table is line none certifies room accepted held = record {
  kernel = kernel;
  graph = graph;
  accepted = accepted;
  room = room;
  bytes = bytes;
  held = held;
  certificate = t;
  certifies = certifies;
  lowest = bound_is_below_pebblings floor_is_below_plays plays_from_start_cost_no_more (played_on graph asked.slots asked.weights) (IsDag-dag_of graph (accepted_graph accepted)) t.rows t.bound certifies.of_game.valid;
  ends = is;
  line = line;
  none = none;
}

-- the game of a command is that of its graph, slots and weights
is_played : (game : GameParts) (asked : Checking) → game.slots ≡ asked.slots → game.weights ≡ asked.weights → game_of game ≡ played_on game.graph asked.slots asked.weights
is_played game asked slots weights = λ i. game_of (record { graph = game.graph; slots = slots i; weights = weights i })

-- what is proved of the game of a command, if what is proved is known
pub proves_played : (game : GameParts) (asked : Checking) (file : FileBytes) (found known : Checked) → game.slots ≡ asked.slots → game.weights ≡ asked.weights → found ≡ known
    → ((told : ToldFile) → IsFileOf told 20000000 file → IsCheckOfFile (game_of game) told found)
    → (told : ToldFile) → IsFileOf told 20000000 file → IsCheckOfFile (played_on game.graph asked.slots asked.weights) told known
proves_played game asked file found known slots weights is proves told of_file =
    subst (λ g. IsCheckOfFile g told known) (is_played game asked slots weights) (subst (λ k. IsCheckOfFile (game_of game) told k) is (proves told of_file))

-- the answer to a file that proves a bound
pub certified_file : {E : Type 0} (r : Result Answer E) (asked : Checking) (graph : GraphParts) (file : FileBytes) (bound : ℕ)
    → IfOk r (λ a. a.status ≡ Done) → IfOk r (λ a. a.text.items ≡ accepted_text bound) → IfOk r (λ a. file_items a.table ≡ None)
    → ((told : ToldFile) → IsFileOf told 20000000 file → IsCheckOfFile (played_on graph asked.slots asked.weights) told (checks.Accepted bound)) → degree (dag_of graph) < asked.slots
    → IfOk r (λ a. (text : List ℕ) (kernel : KernelParts) (told : ToldFile) → IsAccepted text kernel graph → IsFileOf told 20000000 file → Meets (Checks asked text told) a)
certified_file (Ok a) asked graph file bound is line none proves room = λ text kernel told accepted of_file.
    let found = proves told of_file in
    let table = found.proves in
    inl (is_certified asked text told kernel graph found.bytes table.certificate a.status a.text.items (file_items a.table) is (line ∙ ap accepted_text table.same) none table.certifies room accepted found.held)
certified_file (Err e) asked graph file bound is line none proves room = tt

-- a file that is refused, with what is printed
pub is_refused_file : (asked : Checking) (text : List ℕ) (told : ToldFile) (kernel : KernelParts) (graph : GraphParts) (reason row : ℕ) (status : Status) (printed : List ℕ) (table : Option (List ℕ))
    → status ≡ Refused → printed ≡ refused_text reason row → table ≡ None → IsCheckOfFile (played_on graph asked.slots asked.weights) told (checks.Refused reason row)
    → degree (dag_of graph) < asked.slots → IsAccepted text kernel graph → IsRefusedFile asked text told status printed table
is_refused_file asked text told kernel graph reason row status printed table is line none found room accepted = record {
  kernel = kernel;
  graph = graph;
  accepted = accepted;
  room = room;
  bytes = found.bytes;
  held = found.held;
  reason = reason;
  row = row;
  refused = found.proves;
  ends = is;
  line = line;
  none = none;
}

-- the answer to a file that is refused
pub refused_file : {E : Type 0} (r : Result Answer E) (asked : Checking) (graph : GraphParts) (file : FileBytes) (reason row : ℕ)
    → IfOk r (λ a. a.status ≡ Refused) → IfOk r (λ a. a.text.items ≡ refused_text reason row) → IfOk r (λ a. file_items a.table ≡ None)
    → ((told : ToldFile) → IsFileOf told 20000000 file → IsCheckOfFile (played_on graph asked.slots asked.weights) told (checks.Refused reason row)) → degree (dag_of graph) < asked.slots
    → IfOk r (λ a. (text : List ℕ) (kernel : KernelParts) (told : ToldFile) → IsAccepted text kernel graph → IsFileOf told 20000000 file → Meets (Checks asked text told) a)
refused_file (Ok a) asked graph file reason row is line none proves room = λ text kernel told accepted of_file.
    inr (is_refused_file asked text told kernel graph reason row a.status a.text.items (file_items a.table) is line none (proves told of_file) room accepted)
refused_file (Err e) asked graph file reason row is line none proves room = tt

-- ---- what a file proves

-- a file that is too long is no table file
no_room : (bytes : List ℕ) → 20000000 < length bytes → IsNoTableFile bytes
no_room bytes long t file = let short = file.short in omega (arith, long, short)

-- what the bytes of a file prove, the file proves
pub proved_of_whole : {E : Type 0} (r : Result Checked E) (g : PebbleGame) (file : FileBytes) (held : Vec ℕ Global) (bytes : List ℕ)
    → file ≡ Whole held → bytes ≡ held.items → IfOk r (IsCheckOf g bytes) → IfOk r (λ checked. (told : ToldFile) → IsFileOf told 20000000 file → IsCheckOfFile g told checked)
proved_of_whole (Ok checked) g file held bytes is same h = λ told of_file.
    record { bytes = bytes; held = subst (TellsFile told) (sym same) (subst (IsFileOf told 20000000) is of_file).0; proves = h }
proved_of_whole (Err e) g file held bytes is same h = tt

-- one that is too long is refused
pub proved_of_long : (g : PebbleGame) (file : FileBytes) (told : ToldFile) → file ≡ TooLong → IsFileOf told 20000000 file → IsCheckOfFile g told (checks.Refused 1 0)
proved_of_long g file told is of_file =
    let more = told_more_file told 20000000 (subst (IsFileOf told 20000000) is of_file) in
    record { bytes = more.0; held = more.1; proves = no_table (no_room more.0 more.2) refl refl }
