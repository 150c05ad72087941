-- There is an answer to all words, each input and each file that is there, and what `improve` wrote is confirmed.
use Rattle.std.proofs.Common.{◌≡◌, ◌<◌, ◌≤◌, ◌+◌, ℕ, List, length, Option, Some, None, inl, inr, refl, ap, subst, arith}
use Rattle.std.proofs.lemmas.Bool.{cases_lt}
use Rattle.comp_graph.specs.Dags.{degree}
use Rattle.comp_graph.specs.Graphs.{GraphParts, dag_of}
use Rattle.comp_graph.proofs.GraphLaws.{IsDag-dag_of}
use Rattle.desk_io.specs.Known.{TellsFile}
use Rattle.forced_bounds.proofs.Below.{floor_is_below_plays}
use Rattle.kernel_ast.specs.KernelParts.{KernelParts}
use Rattle.normal_steps.proofs.Simulation.{plays_from_start_cost_no_more}
use Rattle.potential_cert.specs.Table.{TableParts}
use Rattle.potential_cert.specs.TableBytes.{IsSpelling}
use Rattle.potential_cert.proofs.Bound.{bound_is_below_pebblings}
use Rattle.command_words.specs.declared.commands.Checking.{Checking}
use Rattle.command_answers.specs.declared.status.Status.{Status}
use Rattle.command_answers.specs.declared.status.Status.TheVariants.{Done, Kernel, Refused, TooSmall, Usage}
use Rattle.command_answers.specs.Accepted.{IsAccepted}
use Rattle.command_answers.specs.CheckAnswers.{IsCertificate, IsRefused, accepted_text, refused_text}
use Rattle.command_answers.specs.PlayedGames.{played_on}
use Rattle.command_answers.specs.Refusals.{kernel_fault_text, too_small_text}
use Rattle.desk_io.specs.Known.{ToldFile}
use Rattle.command_answers.proofs.Accepting.{accepted_graph, accepted_or_fault}
use Rattle.command_answers.proofs.OneChecks.{certified_or_not}
use Rattle.command_answers.proofs.ToldBytes.{bytes_of}
use Rattle.answer_desk.proofs.TableFiles.{Outcome, certified_or_refused, written_table}
use Rattle.improve_answers.specs.declared.commands.ImproveCommand.{ImproveCommand}
use Rattle.improve_answers.specs.declared.commands.ImproveCommand.TheVariants.{Improve, Confirm}
use Rattle.improve_answers.specs.Confirms.{confirmed_text}
use Rattle.improve_answers.specs.ImproveUsage.{usage_text}
use Rattle.improve_answers.specs.ImproveWords.{IsInLimits, command, slots_of}
use Rattle.improve_answers.proofs.SomeImprovements.{some_improvement}
use Rattle.improve_answers.proofs.WordLimits.{words_are_in_limits}
use Rattle.improve_cli.specs.Answers.{Answers, IsAdmitted, own_answer}
use Rattle.improve_cli.specs.AnswerLaws.{ImprovementsAreConfirmed, NeverBoth, SomeAnswer}
use Rattle.improve_cli.proofs.AnswerLaws.{kernel_always, too_small_always, usage_always}

-- ---- the answers of `confirm`

-- a table file of the game is confirmed
is_confirmed : (asked : Checking) (input : List ℕ) (file : ToldFile) (kernel : KernelParts) (graph : GraphParts) (bytes : List ℕ) (t : TableParts) → IsAccepted input kernel graph
    → degree (dag_of graph) < asked.slots → TellsFile file bytes → IsCertificate (played_on graph asked.slots asked.weights) bytes t
    → Answers (Some (Confirm asked)) input file Done (confirmed_text t.bound) None
is_confirmed asked input file kernel graph bytes t accepted room held is =
    own_answer (Confirm asked) refl (inl (record {
      accepted = accepted_text t.bound;
      certified = record {
        kernel = kernel;
        graph = graph;
        accepted = accepted;
        room = room;
        bytes = bytes;
        held = held;
        certificate = t;
        certifies = is;
        lowest = bound_is_below_pebblings floor_is_below_plays plays_from_start_cost_no_more (played_on graph asked.slots asked.weights) (IsDag-dag_of graph (accepted_graph accepted)) t.rows t.bound is.of_game.valid;
        ends = refl;
        line = refl;
        none = refl;
      };
      line = refl;
    }))

-- bytes that are refused are refused
is_refused : (asked : Checking) (input : List ℕ) (file : ToldFile) (kernel : KernelParts) (graph : GraphParts) (bytes : List ℕ) (reason row : ℕ) → IsAccepted input kernel graph
    → degree (dag_of graph) < asked.slots → TellsFile file bytes → IsRefused (played_on graph asked.slots asked.weights) bytes reason row
    → Answers (Some (Confirm asked)) input file Refused (refused_text reason row) None
is_refused asked input file kernel graph bytes reason row accepted room held is =
    own_answer (Confirm asked) refl (inr (record {
      kernel = kernel;
      graph = graph;
      accepted = accepted;
      room = room;
      bytes = bytes;
      held = held;
      reason = reason;
      row = row;
      refused = is;
      ends = refl;
      line = refl;
      none = refl;
    }))

pub never_both : NeverBoth
never_both g bytes t reason row is refused = certified_or_not g bytes t reason row is refused

-- ---- what `improve` wrote

pub improvements_are_confirmed : ImprovementsAreConfirmed
improvements_are_confirmed asked input status printed bytes h =
    let same : h.bytes ≡ bytes = (let written = h.written in cc) in
    let t = h.certificate in
    let few : length t.rows ≤ 150000 = (let expanded = h.answer.expanded in let most = h.answer.few in omega (arith, expanded, most)) in
    let is = written_table (played_on h.graph asked.slots asked.weights) bytes t (subst (λ b. IsSpelling b t) same h.spelled) h.answer.tabled few in
    let confirmed = is_confirmed (record { slots = asked.slots; weights = asked.weights }) input (Some (Some bytes)) h.kernel h.graph bytes t h.accepted h.room refl is in
    subst (λ bound. Answers (Some (Confirm (record { slots = asked.slots; weights = asked.weights }))) input (Some (Some bytes)) Done (confirmed_text bound) None) h.answer.bound confirmed

-- ---- some answer

abbrev HasAnswer : Option ImproveCommand → List ℕ → ToldFile → Type 0
HasAnswer command input file = (status : Status) × (printed : List ℕ) × (table : Option (List ℕ)) × Answers command input file status printed table

-- the file is not missing if `confirm` comes to read it
abbrev IsThere : ImproveCommand → List ℕ → ToldFile → Type 0
IsThere command input file = (asked : Checking) → command ≡ Confirm asked → IsAdmitted (Confirm asked) input → file ≡ Some None → ⊥

by_outcome : (asked : Checking) (input : List ℕ) (file : ToldFile) (kernel : KernelParts) (graph : GraphParts) (bytes : List ℕ) → IsAccepted input kernel graph
    → degree (dag_of graph) < asked.slots → TellsFile file bytes → Outcome (played_on graph asked.slots asked.weights) bytes → HasAnswer (Some (Confirm asked)) input file
by_outcome asked input file kernel graph bytes accepted room held (inl is) =
    (Done, confirmed_text is.0.bound, None, is_confirmed asked input file kernel graph bytes is.0 accepted room held is.1)
by_outcome asked input file kernel graph bytes accepted room held (inr is) =
    (Refused, refused_text is.0 is.1, None, is_refused asked input file kernel graph bytes is.0 is.1 accepted room held is.2)

with_room : (asked : ImproveCommand) (input : List ℕ) (file : ToldFile) (kernel : KernelParts) (graph : GraphParts) → IsInLimits asked → IsThere asked input file
    → IsAccepted input kernel graph → degree (dag_of graph) < slots_of asked → HasAnswer (Some asked) input file
with_room (Improve asked) input file kernel graph limits there accepted room =
    let some = some_improvement asked input kernel graph limits accepted room in
    (some.status, some.printed, some.table, own_answer (Improve asked) refl some.answer)
with_room (Confirm asked) input file kernel graph limits there accepted room =
    let bytes = bytes_of file (there asked refl (record { kernel = kernel; graph = graph; accepted = accepted; room = room })) in
    by_outcome asked input file kernel graph bytes.0 accepted room bytes.1
    (certified_or_refused (played_on graph asked.slots asked.weights) (IsDag-dag_of graph (accepted_graph accepted)) bytes.0)

by_slots : (asked : ImproveCommand) (input : List ℕ) (file : ToldFile) (kernel : KernelParts) (graph : GraphParts) → IsInLimits asked → IsThere asked input file
    → IsAccepted input kernel graph → HasAnswer (Some asked) input file
by_slots asked input file kernel graph limits there accepted = elim (cases_lt (degree (dag_of graph)) (slots_of asked)) [
  | inl room ↦ with_room asked input file kernel graph limits there accepted room
  | inr few ↦ (TooSmall, too_small_text (degree (dag_of graph) + 1), None, too_small_always asked input file kernel graph limits accepted (omega (arith, few)))
]

by_text : (asked : ImproveCommand) (input : List ℕ) (file : ToldFile) → IsInLimits asked → IsThere asked input file → HasAnswer (Some asked) input file
by_text asked input file limits there = elim (accepted_or_fault input) [
  | inl a ↦ by_slots asked input file a.0 a.1 limits there a.2
  | inr f ↦ (Kernel, kernel_fault_text f.0 f.1, None, kernel_always asked input file f.0 f.1 f.2)
]

by_words : (found : Option ImproveCommand) (input : List ℕ) (file : ToldFile) → ((asked : ImproveCommand) → found ≡ Some asked → IsInLimits asked)
    → ((asked : Checking) → found ≡ Some (Confirm asked) → IsAdmitted (Confirm asked) input → file ≡ Some None → ⊥) → HasAnswer found input file
by_words None input file limits there = (Usage, usage_text, None, usage_always input file)
by_words (Some asked) input file limits there = by_text asked input file (limits asked refl) (λ other is. there other (ap (λ a. Some a) is))

pub some_answer : SomeAnswer
some_answer words input file there = by_words (command words) input file (words_are_in_limits words) there
