-- The own answers of `check`: one to each accepted kernel with enough slots and each file that is there.
use Rattle.std.proofs.Common.{◌≡◌, ◌⊎◌, ℕ, ◌<◌, List, [], ◌++◌, length, Option, Some, None, inl, inr, refl, sym, ap, ◌∙◌, subst, arith}
use Rattle.std.proofs.lemmas.Bool.{cases_lt}
use Rattle.comp_graph.specs.Dags.{IsDag, degree}
use Rattle.comp_graph.specs.Games.{PebbleGame}
use Rattle.comp_graph.specs.Graphs.{GraphParts, dag_of}
use Rattle.comp_graph.proofs.GraphLaws.{IsDag-dag_of}
use Rattle.cert_checker.specs.Refusals.{IsRefusal, number_of_reason}
use Rattle.cert_checker.proofs.Checked.{refused_is_no_table}
use Rattle.cert_checker.proofs.Decided.{table_or_refusal}
use Rattle.cert_checker.proofs.OneRefusal.{refusal_is_one}
use Rattle.desk_io.specs.Known.{ToldFile, TellsFile}
use Rattle.kernel_ast.specs.KernelParts.{KernelParts}
use Rattle.potential_cert.specs.GameTables.{IsTableOf}
use Rattle.potential_cert.specs.Table.{TableParts}
use Rattle.potential_cert.proofs.OneSpelling.{spelling_is_one}
use Rattle.potential_cert.proofs.Readable.{spelled_or_not}
use Rattle.command_words.specs.declared.commands.Checking.{Checking}
use Rattle.command_words.specs.declared.commands.Command.TheVariants.{Check}
use Rattle.command_answers.specs.declared.status.Status.{Status}
use Rattle.command_answers.specs.declared.status.Status.TheVariants.{Done, Refused}
use Rattle.command_answers.specs.Accepted.{IsAccepted}
use Rattle.pebble_cli.specs.Answers.{IsAdmitted, kernel_with_room, code_input}
use Rattle.command_answers.specs.CheckAnswers.{Checks, IsCertificate, IsCertified, IsRefused, IsRefusedFile, IsTableFile, accepted_text, broken, no_table, refused_text}
use Rattle.pebble_cli.specs.CheckLaws.{CertifiedOrRefused}
use Rattle.command_answers.specs.PlayedGames.{played_on}
use Rattle.command_answers.specs.Status.{is_own}
use Rattle.command_answers.proofs.Accepting.{accepted_graph, accepted_once}
use Rattle.pebble_cli.proofs.OwnAnswers.{IsKept, HasOwn, AreKept, AreOne}
use Rattle.command_answers.proofs.OneChecks.{one_check}
use Rattle.command_answers.proofs.TableFiles.{is_certified}
use Rattle.command_answers.proofs.ToldBytes.{bytes_of, not_missing, told_bytes}

-- more slots than the degree
room_for : (slots : ℕ) (graph : GraphParts) → degree (dag_of graph) < slots → (count : ℕ) → Some slots ≡ Some count → degree (dag_of graph) < count
room_for slots graph room count e = let same : slots ≡ count = cc in omega (arith, room, same)

-- an accepted kernel with enough slots is admitted
pub admits : (asked : Checking) (input : List ℕ) (kernel : KernelParts) (graph : GraphParts) → IsAccepted input kernel graph → degree (dag_of graph) < asked.slots
    → IsAdmitted (Check asked) input
admits asked input kernel graph accepted room =
    kernel_with_room input refl (record { kernel = kernel; graph = graph; accepted = accepted; room = room_for asked.slots graph room })

kept : (asked : Checking) (input : List ℕ) (file : ToldFile) (status : Status) (printed : List ℕ) (table : Option (List ℕ))
    → Checks asked input file status printed table → IsKept (Check asked) input file status printed table
kept asked input file status printed table (inl h) = record {
  admitted = admits asked input h.kernel h.graph h.accepted h.room;
  last = ap is_own h.ends;
  untold = λ e. h.none;
  held = λ e. not_missing file h.bytes h.held;
}
kept asked input file status printed table (inr h) = record {
  admitted = admits asked input h.kernel h.graph h.accepted h.room;
  last = ap is_own h.ends;
  untold = λ e. h.none;
  held = λ e. not_missing file h.bytes h.held;
}

-- ---- there is an answer

-- the bytes are a table file of the game, or are refused
abbrev Outcome : PebbleGame → List ℕ → Type 0
Outcome g bytes = ((t : TableParts) × IsCertificate g bytes t) ⊎ ((reason : ℕ) × (row : ℕ) × IsRefused g bytes reason row)

by_table : (g : PebbleGame) → IsDag g.dag → (bytes : List ℕ) (t : TableParts) → IsTableFile bytes t → Outcome g bytes
by_table g dag bytes t file = elim (table_or_refusal g dag t) [
  | inl of_game ↦ inl (t, record { file = file; of_game = of_game })
  | inr refusal ↦ inr (number_of_reason refusal.0, refusal.1, broken t refusal.0 file refusal.2 refl)
]

pub certified_or_refused : CertifiedOrRefused
certified_or_refused g dag bytes = elim (cases_lt 20000000 (length bytes)) [
  | inl long ↦ inr (1, 0, no_table (λ t file. (let short = file.short in omega (arith, long, short))) refl refl)
  | inr short ↦ elim (spelled_or_not bytes) [
    | inl spelled ↦ by_table g dag bytes spelled.0 (record { short = omega (arith, short); spelled = spelled.1 })
    | inr none ↦ inr (1, 0, no_table (λ t file. none t file.spelled) refl refl)
  ]
]

answer_by : (asked : Checking) (input bytes : List ℕ) (file : ToldFile) (kernel : KernelParts) (graph : GraphParts) → IsAccepted input kernel graph
    → degree (dag_of graph) < asked.slots → TellsFile file bytes → Outcome (played_on graph asked.slots asked.weights) bytes → HasOwn (Check asked) input file
answer_by asked input bytes file kernel graph accepted room held (inl h) = record {
  status = Done;
  printed = accepted_text h.0.bound;
  table = None;
  answer = inl (is_certified asked input file kernel graph bytes h.0 Done (accepted_text h.0.bound) None refl refl refl h.1 room accepted held);
}
answer_by asked input bytes file kernel graph accepted room held (inr h) = record {
  status = Refused;
  printed = refused_text h.0 h.1;
  table = None;
  answer = inr (record {
    kernel = kernel;
    graph = graph;
    accepted = accepted;
    room = room;
    bytes = bytes;
    held = held;
    reason = h.0;
    row = h.1;
    refused = h.2;
    ends = refl;
    line = refl;
    none = refl;
  });
}

some : (asked : Checking) (input : List ℕ) (file : ToldFile) → (file ≡ Some None → ⊥) → IsAdmitted (Check asked) input → HasOwn (Check asked) input file
some asked input file there (kernel_with_room text e h) =
    let same : text ≡ input = cc in
    let bytes = bytes_of file there in
    answer_by asked input bytes.0 file h.kernel h.graph (subst (λ t. IsAccepted t h.kernel h.graph) same h.accepted) (h.room asked.slots refl) bytes.1
    (certified_or_refused (played_on h.graph asked.slots asked.weights) (IsDag-dag_of h.graph (accepted_graph h.accepted)) bytes.0)
some asked input file there (code_input code is h) = absurd (cc)

pub check_kept : (asked : Checking) → AreKept (Check asked)
check_kept asked = record {
  each = kept asked;
  once = λ input file s t p q a b told h k. let known = told refl in one_check asked input file known.0 s t p q a b known.1 h k;
  some = λ input file limits there admitted. some asked input file (there refl) admitted;
}
