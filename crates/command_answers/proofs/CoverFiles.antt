-- What `covercheck` answers to the bytes of a file; that a text and a file have one answer, and always one.
use Rattle.std.proofs.Common.{◌≡◌, ◌<◌, ◌++◌, ℕ, List, [], length, Option, None, Some, Result, Ok, Err, IfOk, inl, inr, refl, sym, ap, ◌∙◌, subst, arith}
use Rattle.std.specs.Prelude.{Vec}
use Rattle.std.proofs.lemmas.Bool.{cases_lt}
use Rattle.std.specs.declared.alloc.Global.{Global}
use Rattle.comp_graph.specs.Dags.{IsDag, degree}
use Rattle.comp_graph.specs.Games.{GameParts, PebbleGame, game_of, unit_weights}
use Rattle.comp_graph.specs.Graphs.{GraphParts, dag_of}
use Rattle.comp_graph.proofs.GraphLaws.{IsDag-dag_of}
use Rattle.cert_checker.specs.Refusals.{number_of_reason}
use Rattle.cover_cert.specs.CoverTable.{CoverTableParts, IsCoverTableOf}
use Rattle.cover_cert.specs.Refusals.{IsCoverRefusal}
use Rattle.cover_cert.proofs.Bound.{cover_bound_is_below_pebblings}
use Rattle.cover_cert.proofs.CoverDecided.{cover_table_or_refusal}
use Rattle.cover_cert.proofs.CoverReadable.{cover_spelled_or_not}
use Rattle.cover_cert.proofs.Checked.{cover_refusal_is_one, refused_is_no_cover_table}
use Rattle.cover_cert.proofs.OneCoverSpelling.{cover_spelling_is_one}
use Rattle.desk_io.specs.Known.{ToldFile, TellsFile, file_items}
use Rattle.forced_bounds.proofs.Below.{floor_is_below_plays}
use Rattle.kernel_ast.specs.KernelParts.{KernelParts}
use Rattle.normal_steps.proofs.PlanMoves.{plays_are_pebblings}
use Rattle.normal_steps.proofs.Simulation.{plays_cost_no_more}
use Rattle.command_answers.specs.declared.answer.Answer.{Answer}
use Rattle.command_answers.specs.declared.answer.FileBytes.{FileBytes}
use Rattle.command_answers.specs.declared.answer.FileBytes.TheVariants.{Whole, TooLong}
use Rattle.command_answers.specs.declared.status.Status.{Status}
use Rattle.command_answers.specs.declared.status.Status.TheVariants.{Done, Refused}
use Rattle.command_answers.specs.Accepted.{IsAccepted}
use Rattle.command_answers.specs.CheckAnswers.{accepted_text, refused_text}
use Rattle.command_answers.specs.CoverCheckAnswers.{CoverChecks, CoverFileIsJudged, CoverFilesAreJudged, IsCoverCertificate, IsCoverCertified, IsCoverFile, IsCoverRefused, IsCoverRefusedFile, IsNoCoverFile, broken, no_table}
use Rattle.command_answers.specs.MadeAnswers.{Meets, IsFileOf}
use Rattle.command_answers.specs.PlayedGames.{played_on}
use Rattle.command_answers.proofs.Accepting.{accepted_graph, accepted_once}
use Rattle.command_answers.proofs.ToldBytes.{bytes_of, told_bytes, told_more_file}

-- ---- the answer that is made

-- a covered table file of the game certifies its bound: it is at most the cost of each complete pebbling
pub is_cover_certified : (slots : ℕ) (text : List ℕ) (file : ToldFile) (kernel : KernelParts) (graph : GraphParts) (bytes : List ℕ) (t : CoverTableParts)
    (status : Status) (printed : List ℕ) (table : Option (List ℕ)) → status ≡ Done → printed ≡ accepted_text t.bound → table ≡ None
    → IsCoverCertificate (played_on graph slots unit_weights) bytes t → degree (dag_of graph) < slots → IsAccepted text kernel graph → TellsFile file bytes
    → IsCoverCertified slots text file status printed table
is_cover_certified slots text file kernel graph bytes t status printed table is line none certifies room accepted held = record {
  kernel = kernel;
  graph = graph;
  accepted = accepted;
  room = room;
  bytes = bytes;
  held = held;
  certificate = t;
  certifies = certifies;
  lowest =
      cover_bound_is_below_pebblings floor_is_below_plays plays_cost_no_more plays_are_pebblings (played_on graph slots unit_weights)
      (IsDag-dag_of graph (accepted_graph accepted)) t.rows t.bound certifies.of_game.holds;
  ends = is;
  line = line;
  none = none;
}

-- the game of the command is that of its graph and slots, with weights 1 and 1
pub is_unit_game : (game : GameParts) → game.weights ≡ unit_weights → game_of game ≡ played_on game.graph game.slots unit_weights
is_unit_game game weights = λ i. game_of (record { graph = game.graph; slots = game.slots; weights = weights i })

-- what the answer to a file says
abbrev pub AnswersCoverFile : ℕ → GraphParts → List ℕ → Answer → Type 0
AnswersCoverFile slots graph bytes answer = (text : List ℕ) (kernel : KernelParts) (file : ToldFile) → IsAccepted text kernel graph → TellsFile file bytes
    → Meets (CoverChecks slots text file) answer

-- the answer where the file is a covered table file of the game
pub certified : {E : Type 0} (r : Result Answer E) (slots : ℕ) (graph : GraphParts) (bytes : List ℕ) (t : CoverTableParts) (bound : ℕ)
    → IfOk r (λ a. a.status ≡ Done) → IfOk r (λ a. a.text.items ≡ accepted_text bound) → IfOk r (λ a. file_items a.table ≡ None) → bound ≡ t.bound
    → IsCoverCertificate (played_on graph slots unit_weights) bytes t → degree (dag_of graph) < slots → IfOk r (AnswersCoverFile slots graph bytes)
certified (Ok a) slots graph bytes t bound is line none same certifies room = λ text kernel file accepted held.
    inl (is_cover_certified slots text file kernel graph bytes t a.status a.text.items (file_items a.table) is (line ∙ ap accepted_text same) none certifies room accepted held)
certified (Err e) slots graph bytes t bound is line none same certifies room = tt

-- the answer where the file is refused
pub not_certified : {E : Type 0} (r : Result Answer E) (slots : ℕ) (graph : GraphParts) (bytes : List ℕ) (reason row : ℕ)
    → IfOk r (λ a. a.status ≡ Refused) → IfOk r (λ a. a.text.items ≡ refused_text reason row) → IfOk r (λ a. file_items a.table ≡ None)
    → IsCoverRefused (played_on graph slots unit_weights) bytes reason row → degree (dag_of graph) < slots → IfOk r (AnswersCoverFile slots graph bytes)
not_certified (Ok a) slots graph bytes reason row is line none refused room = λ text kernel file accepted held. inr (record {
  kernel = kernel;
  graph = graph;
  accepted = accepted;
  room = room;
  bytes = bytes;
  held = held;
  reason = reason;
  row = row;
  refused = refused;
  ends = is;
  line = line;
  none = none;
})
not_certified (Err e) slots graph bytes reason row is line none refused room = tt

-- a file that is too long is no covered table file
no_room : (bytes : List ℕ) → 20000000 < length bytes → IsNoCoverFile bytes
no_room bytes long t file = let short = file.short in omega (arith, long, short)

-- what answers the bytes of a file answers what was read of it
pub of_whole : {E : Type 0} (r : Result Answer E) (slots : ℕ) (graph : GraphParts) (file : FileBytes) (held : Vec ℕ Global) (bytes : List ℕ)
    → file ≡ Whole held → bytes ≡ held.items → IfOk r (AnswersCoverFile slots graph bytes)
    → IfOk r (λ a. (text : List ℕ) (kernel : KernelParts) (told : ToldFile) → IsAccepted text kernel graph → IsFileOf told 20000000 file → Meets (CoverChecks slots text told) a)
of_whole (Ok a) slots graph file held bytes is same h = λ text kernel told accepted of_file.
    h text kernel told accepted (subst (TellsFile told) (sym same) (subst (IsFileOf told 20000000) is of_file).0)
of_whole (Err e) slots graph file held bytes is same h = tt

pub of_long : {E : Type 0} (r : Result Answer E) (slots : ℕ) (graph : GraphParts) (file : FileBytes) → file ≡ TooLong
    → IfOk r (λ a. a.status ≡ Refused) → IfOk r (λ a. a.text.items ≡ refused_text 1 0) → IfOk r (λ a. file_items a.table ≡ None) → degree (dag_of graph) < slots
    → IfOk r (λ a. (text : List ℕ) (kernel : KernelParts) (told : ToldFile) → IsAccepted text kernel graph → IsFileOf told 20000000 file → Meets (CoverChecks slots text told) a)
of_long {E} (Ok a) slots graph file is ends line none room = λ text kernel told accepted of_file.
    let more = told_more_file told 20000000 (subst (IsFileOf told 20000000) is of_file) in
    not_certified {E = E} (Ok a) slots graph more.0 1 0 ends line none (no_table (no_room more.0 more.2) refl refl) room text kernel told accepted more.1
of_long {E} (Err e) slots graph file is ends line none room = tt

-- ---- one answer

-- bytes spell one covered table
one_table : (bytes : List ℕ) (t u : CoverTableParts) → IsCoverFile bytes t → IsCoverFile bytes u → t ≡ u
one_table bytes t u a b = (cover_spelling_is_one t u [] [] a.spelled.fits b.spelled.fits (ap (λ xs. xs ++ []) (sym a.spelled.bytes_are ∙ b.spelled.bytes_are))).0

pub one_cover_certificate : (g : PebbleGame) (bytes : List ℕ) (t u : CoverTableParts) → IsCoverCertificate g bytes t → IsCoverCertificate g bytes u → t ≡ u
one_cover_certificate g bytes t u a b = one_table bytes t u a.file b.file

-- a covered table file of the game is not refused
pub cover_certified_or_not : {X : Type 0} (g : PebbleGame) (bytes : List ℕ) (t : CoverTableParts) (reason row : ℕ) → IsCoverCertificate g bytes t → IsCoverRefused g bytes reason row → X
cover_certified_or_not g bytes t reason row is (no_table none reason_is row_is) = absurd (none t is.file)
cover_certified_or_not g bytes t reason row is (broken u why file breaks reason_is) =
    absurd (refused_is_no_cover_table g u why row breaks (subst (IsCoverTableOf g) (one_table bytes t u is.file file) is.of_game))

-- a file is refused for one reason and by one row
pub one_cover_refusal : (g : PebbleGame) (bytes : List ℕ) (a b j k : ℕ) → IsCoverRefused g bytes a j → IsCoverRefused g bytes b k → (a ≡ b) × (j ≡ k)
one_cover_refusal g bytes a b j k (no_table none a_is j_is) (no_table other b_is k_is) = (a_is ∙ sym b_is, j_is ∙ sym k_is)
one_cover_refusal g bytes a b j k (no_table none a_is j_is) (broken u why file breaks b_is) = absurd (none u file)
one_cover_refusal g bytes a b j k (broken t why file breaks a_is) (no_table none b_is k_is) = absurd (none t file)
one_cover_refusal g bytes a b j k (broken t why file breaks a_is) (broken u other held refuses b_is) =
    let same = cover_refusal_is_one g u why other j k (subst (λ x. IsCoverRefusal g x why j) (one_table bytes t u file held) breaks) refuses in
    (a_is ∙ ap number_of_reason same.0 ∙ sym b_is, same.1)

-- the game and the bytes of two answers to one text and one file are the same
moved : (P : PebbleGame → List ℕ → Type 0) (slots : ℕ) (text : List ℕ) (k j : KernelParts) (g h : GraphParts) (bytes held : List ℕ) → IsAccepted text k g → IsAccepted text j h → bytes ≡ held
    → P (played_on g slots unit_weights) bytes → P (played_on h slots unit_weights) held
moved P slots text k j g h bytes held a b same holds =
    subst (λ x. P (played_on h slots unit_weights) x) same (subst (λ x. P (played_on x slots unit_weights) bytes) (accepted_once text k j g h a b).1 holds)

-- two answers are one
abbrev pub AreOneAnswer : Status → Status → List ℕ → List ℕ → Option (List ℕ) → Option (List ℕ) → Type 0
AreOneAnswer s t p q a b = (s ≡ t) × (p ≡ q) × (a ≡ b)

-- a file has one certificate, whose bound is printed
one_bound : (slots : ℕ) (text : List ℕ) (file : ToldFile) (held : Option (List ℕ)) (s t : Status) (p q : List ℕ) (a b : Option (List ℕ))
    → file ≡ Some held → IsCoverCertified slots text file s p a → IsCoverCertified slots text file t q b → AreOneAnswer s t p q a b
one_bound slots text file held s t p q a b told h k =
    let here = moved (λ g bytes. IsCoverCertificate g bytes h.certificate) slots text h.kernel k.kernel h.graph k.graph h.bytes k.bytes h.accepted k.accepted (told_bytes file held h.bytes k.bytes told h.held k.held) h.certifies in
    let same : h.certificate ≡ k.certificate = one_cover_certificate (played_on k.graph slots unit_weights) k.bytes h.certificate k.certificate here k.certifies in
    (h.ends ∙ sym k.ends, h.line ∙ ap (λ (c : CoverTableParts). accepted_text c.bound) same ∙ sym k.line, h.none ∙ sym k.none)

-- or is refused for one reason, which is printed
one_reason : (slots : ℕ) (text : List ℕ) (file : ToldFile) (held : Option (List ℕ)) (s t : Status) (p q : List ℕ) (a b : Option (List ℕ))
    → file ≡ Some held → IsCoverRefusedFile slots text file s p a → IsCoverRefusedFile slots text file t q b → AreOneAnswer s t p q a b
one_reason slots text file held s t p q a b told h k =
    let here = moved (λ g bytes. IsCoverRefused g bytes h.reason h.row) slots text h.kernel k.kernel h.graph k.graph h.bytes k.bytes h.accepted k.accepted (told_bytes file held h.bytes k.bytes told h.held k.held) h.refused in
    let same = one_cover_refusal (played_on k.graph slots unit_weights) k.bytes h.reason k.reason h.row k.row here k.refused in
    let line : refused_text h.reason h.row ≡ refused_text k.reason k.row = λ i. refused_text (same.0 i) (same.1 i) in
    (h.ends ∙ sym k.ends, h.line ∙ line ∙ sym k.line, h.none ∙ sym k.none)

-- a text and a file that is told have at most one answer
pub cover_check_is_one : (slots : ℕ) (text : List ℕ) (file : ToldFile) (held : Option (List ℕ)) (s t : Status) (p q : List ℕ) (a b : Option (List ℕ))
    → file ≡ Some held → CoverChecks slots text file s p a → CoverChecks slots text file t q b → AreOneAnswer s t p q a b
cover_check_is_one slots text file held s t p q a b told (inl h) (inl k) = one_bound slots text file held s t p q a b told h k
cover_check_is_one slots text file held s t p q a b told (inl h) (inr k) =
    cover_certified_or_not (played_on k.graph slots unit_weights) k.bytes h.certificate k.reason k.row
    (moved (λ g bytes. IsCoverCertificate g bytes h.certificate) slots text h.kernel k.kernel h.graph k.graph h.bytes k.bytes h.accepted k.accepted (told_bytes file held h.bytes k.bytes told h.held k.held) h.certifies)
    k.refused
cover_check_is_one slots text file held s t p q a b told (inr h) (inl k) =
    cover_certified_or_not (played_on h.graph slots unit_weights) h.bytes k.certificate h.reason h.row
    (moved (λ g bytes. IsCoverCertificate g bytes k.certificate) slots text k.kernel h.kernel k.graph h.graph k.bytes h.bytes k.accepted h.accepted (told_bytes file held k.bytes h.bytes told k.held h.held) k.certifies)
    h.refused
cover_check_is_one slots text file held s t p q a b told (inr h) (inr k) = one_reason slots text file held s t p q a b told h k

-- ---- there is an answer

by_table : (g : PebbleGame) → IsDag g.dag → (bytes : List ℕ) (t : CoverTableParts) → IsCoverFile bytes t → CoverFileIsJudged g bytes
by_table g dag bytes t file = elim (cover_table_or_refusal g dag t) [
  | inl of_game ↦ inl (t, record { file = file; of_game = of_game })
  | inr refusal ↦ inr (number_of_reason refusal.0, refusal.1, broken t refusal.0 file refusal.2 refl)
]

-- each file is a covered table file of the game, or is refused
pub cover_files_are_judged : CoverFilesAreJudged
cover_files_are_judged g dag bytes = elim (cases_lt 20000000 (length bytes)) [
  | inl long ↦ inr (1, 0, no_table (no_room bytes long) refl refl)
  | inr short ↦ elim (cover_spelled_or_not bytes) [
    | inl spelled ↦ by_table g dag bytes spelled.0 (record { short = omega (arith, short); spelled = spelled.1 })
    | inr none ↦ inr (1, 0, no_table (λ t file. none t file.spelled) refl refl)
  ]
]

-- there is an answer of `covercheck`
abbrev pub HasCoverCheck : ℕ → List ℕ → ToldFile → Type 0
HasCoverCheck slots text file = (status : Status) × (printed : List ℕ) × (table : Option (List ℕ)) × CoverChecks slots text file status printed table

answer_by : (slots : ℕ) (text bytes : List ℕ) (file : ToldFile) (kernel : KernelParts) (graph : GraphParts) → IsAccepted text kernel graph
    → degree (dag_of graph) < slots → TellsFile file bytes → CoverFileIsJudged (played_on graph slots unit_weights) bytes → HasCoverCheck slots text file
answer_by slots text bytes file kernel graph accepted room held (inl h) = (
  Done,
  accepted_text h.0.bound,
  None,
  inl (is_cover_certified slots text file kernel graph bytes h.0 Done (accepted_text h.0.bound) None refl refl refl h.1 room accepted held),
)
answer_by slots text bytes file kernel graph accepted room held (inr h) = (
  Refused,
  refused_text h.0 h.1,
  None,
  inr (record {
    kernel = kernel;
    graph = graph;
    accepted = accepted;
    room = room;
    bytes = bytes;
    held = held;
    reason = h.0;
    row = h.1;
    refused = h.2;
    ends = refl;
    line = refl;
    none = refl;
  }),
)

-- an accepted text with enough slots, and a file that is not missing, have an answer
pub cover_check_is_some : (slots : ℕ) (text : List ℕ) (file : ToldFile) (kernel : KernelParts) (graph : GraphParts) → (file ≡ Some None → ⊥) → IsAccepted text kernel graph
    → degree (dag_of graph) < slots → HasCoverCheck slots text file
cover_check_is_some slots text file kernel graph there accepted room =
    let bytes = bytes_of file there in
    answer_by slots text bytes.0 file kernel graph accepted room bytes.1
    (cover_files_are_judged (played_on graph slots unit_weights) (IsDag-dag_of graph (accepted_graph accepted)) bytes.0)
