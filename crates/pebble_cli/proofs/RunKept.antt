-- The own answers of `run`: one to each accepted kernel and each file that is there.
use Rattle.std.proofs.Common.{◌≡◌, ◌⊎◌, ℕ, ℤ, List, length, Option, Some, None, inl, inr, refl, sym, ap, ◌∙◌, subst}
use Rattle.comp_graph.specs.Graphs.{GraphParts}
use Rattle.desk_io.specs.Known.{ToldFile, TellsFile}
use Rattle.kernel_ast.specs.declared.tree.DeclKind.TheVariants as kinds
use Rattle.kernel_ast.specs.KernelParts.{KernelParts}
use Rattle.kernel_ast.specs.Labels.{labels_of}
use Rattle.kernel_ast.specs.Meaning.{outputs}
use Rattle.plan_report.specs.OutputsText.{outputs_text}
use Rattle.values_text.specs.Values.{Spells}
use Rattle.values_text.proofs.Parts.{one_list}
use Rattle.command_words.specs.declared.commands.Command.TheVariants.{Run}
use Rattle.command_answers.specs.declared.status.Status.{Status}
use Rattle.command_answers.specs.declared.status.Status.TheVariants.{Done, Values}
use Rattle.command_answers.specs.Accepted.{IsAccepted}
use Rattle.pebble_cli.specs.Answers.{IsAdmitted, kernel_with_room, code_input}
use Rattle.command_answers.specs.RunAnswers.{Runs, IsValued, IsWrongValues, IsValuesFile, IsNoValuesFile}
use Rattle.command_answers.specs.Status.{is_own}
use Rattle.command_answers.specs.ValuesFiles.{values_fault_text}
use Rattle.command_answers.proofs.Accepting.{accepted_once}
use Rattle.pebble_cli.proofs.OwnAnswers.{IsKept, HasOwn, AreKept, AreOne}
use Rattle.command_answers.proofs.ToldBytes.{not_missing, told_bytes, bytes_of}
use Rattle.command_answers.proofs.ValuesFiles.{holds_or_not}

-- an accepted kernel is admitted
pub admits : (input : List ℕ) (kernel : KernelParts) (graph : GraphParts) → IsAccepted input kernel graph → IsAdmitted Run input
admits input kernel graph accepted = kernel_with_room input refl (record { kernel = kernel; graph = graph; accepted = accepted; room = λ count e. absurd (cc) })

kept : (input : List ℕ) (file : ToldFile) (status : Status) (printed : List ℕ) (table : Option (List ℕ))
    → Runs input file status printed table → IsKept Run input file status printed table
kept input file status printed table (inl h) = record {
  admitted = admits input h.kernel h.graph h.accepted;
  last = ap is_own h.ends;
  untold = λ e. h.none;
  held = λ e. not_missing file h.bytes h.held;
}
kept input file status printed table (inr h) = record {
  admitted = admits input h.kernel h.graph h.accepted;
  last = ap is_own h.ends;
  untold = λ e. h.none;
  held = λ e. not_missing file h.bytes h.held;
}

-- values of the one kernel of a text
pub values_of : (text : List ℕ) (k j : KernelParts) (g h : GraphParts) (bytes held : List ℕ) (values : List ℤ) → IsAccepted text k g → IsAccepted text j h → bytes ≡ held
    → IsValuesFile k bytes values → IsValuesFile j held values
values_of text k j g h bytes held values a b same given =
    subst (λ z. IsValuesFile j z values) same (subst (λ z. IsValuesFile z bytes values) (accepted_once text k j g h a b).0 given)

-- values are not both there and not there
clash : {X : Type 0} (text : List ℕ) (file : ToldFile) (held : Option (List ℕ)) (s t : Status) (p q : List ℕ) (a b : Option (List ℕ))
    → file ≡ Some held → IsValued text file s p a → IsWrongValues text file t q b → X
clash text file held s t p q a b told h k =
    absurd (k.wrong h.values (values_of text h.kernel k.kernel h.graph k.graph h.bytes k.bytes h.values h.accepted k.accepted (told_bytes file held h.bytes k.bytes told h.held k.held) h.given))

-- the outputs of the one kernel on the one list of values are one
one_run : (text : List ℕ) (file : ToldFile) (held : Option (List ℕ)) (s t : Status) (p q : List ℕ) (a b : Option (List ℕ))
    → file ≡ Some held → IsValued text file s p a → IsValued text file t q b → AreOne s t p q a b
one_run text file held s t p q a b told h k =
    let kernels : h.kernel ≡ k.kernel = (accepted_once text h.kernel k.kernel h.graph k.graph h.accepted k.accepted).0 in
    let bytes : h.bytes ≡ k.bytes = told_bytes file held h.bytes k.bytes told h.held k.held in
    let list : h.values ≡ k.values = one_list k.bytes h.values k.values (subst (λ z. Spells z h.values) bytes h.given.spelled) k.given.spelled in
    let lines : outputs_text (labels_of kinds.Output h.kernel.decls) (outputs h.kernel h.values) ≡ outputs_text (labels_of kinds.Output k.kernel.decls) (outputs k.kernel k.values) =
    λ i. outputs_text (labels_of kinds.Output (kernels i).decls) (outputs (kernels i) (list i)) in
    (h.ends ∙ sym k.ends, h.lines ∙ lines ∙ sym k.lines, h.none ∙ sym k.none)

once : (text : List ℕ) (file : ToldFile) (held : Option (List ℕ)) (s t : Status) (p q : List ℕ) (a b : Option (List ℕ))
    → file ≡ Some held → Runs text file s p a → Runs text file t q b → AreOne s t p q a b
once text file held s t p q a b told (inl h) (inl k) = one_run text file held s t p q a b told h k
once text file held s t p q a b told (inl h) (inr k) = clash text file held s t p q a b told h k
once text file held s t p q a b told (inr h) (inl k) = clash text file held t s q p b a told k h
once text file held s t p q a b told (inr h) (inr k) = (h.ends ∙ sym k.ends, h.line ∙ sym k.line, h.none ∙ sym k.none)

-- ---- there is an answer

-- the bytes are a values file of the kernel, or not
abbrev Outcome : KernelParts → List ℕ → Type 0
Outcome kernel bytes = ((values : List ℤ) × IsValuesFile kernel bytes values) ⊎ IsNoValuesFile kernel bytes

pub values_or_not : (kernel : KernelParts) (bytes : List ℕ) → Outcome kernel bytes
values_or_not kernel bytes = holds_or_not (length (labels_of kinds.Input kernel.decls)) bytes

answer_by : (input bytes : List ℕ) (file : ToldFile) (kernel : KernelParts) (graph : GraphParts) → IsAccepted input kernel graph → TellsFile file bytes
    → Outcome kernel bytes → HasOwn Run input file
answer_by input bytes file kernel graph accepted held (inl given) = record {
  status = Done;
  printed = outputs_text (labels_of kinds.Output kernel.decls) (outputs kernel given.0);
  table = None;
  answer = inl (record { kernel = kernel; graph = graph; accepted = accepted; bytes = bytes; held = held; values = given.0; given = given.1; ends = refl; lines = refl; none = refl });
}
answer_by input bytes file kernel graph accepted held (inr none) = record {
  status = Values;
  printed = values_fault_text;
  table = None;
  answer = inr (record { kernel = kernel; graph = graph; accepted = accepted; bytes = bytes; held = held; wrong = none; ends = refl; line = refl; none = refl });
}

some : (input : List ℕ) (file : ToldFile) → (file ≡ Some None → ⊥) → IsAdmitted Run input → HasOwn Run input file
some input file there (kernel_with_room text e h) =
    let same : text ≡ input = cc in
    let bytes = bytes_of file there in
    answer_by input bytes.0 file h.kernel h.graph (subst (λ t. IsAccepted t h.kernel h.graph) same h.accepted) bytes.1 (values_or_not h.kernel bytes.0)
some input file there (code_input code is h) = absurd (cc)

pub run_kept : AreKept Run
run_kept = record {
  each = kept;
  once = λ input file s t p q a b told h k. let known = told refl in once input file known.0 s t p q a b known.1 h k;
  some = λ input file limits there admitted. some input file (there refl) admitted;
}
