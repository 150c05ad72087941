-- The laws of the answers: where each refusal and a command's own answer come, and that those which are fixed are one.
use Rattle.std.proofs.Common.{◌≡◌, ◌≢◌, ◌⊎◌, ℕ, ◌+◌, ◌<◌, ◌≤◌, Bool, true, false, List, Option, Some, None, inl, inr, refl, sym, ap, ◌∙◌, subst, arith}
use Rattle.comp_graph.specs.Dags.{degree}
use Rattle.comp_graph.specs.Graphs.{GraphParts, dag_of}
use Rattle.kernel_ast.specs.KernelParts.{KernelParts}
use Rattle.command_words.specs.declared.commands.Checking.{Checking}
use Rattle.command_answers.specs.declared.status.Status.{Status}
use Rattle.command_answers.specs.declared.status.Status.TheVariants.{Optimal, Open, Done, Refused, Usage, Kernel, TooSmall, ReadFault, WriteFault, NoMemory}
use Rattle.command_answers.specs.Accepted.{IsAccepted, IsKernelFault}
use Rattle.command_answers.specs.CheckAnswers.{Checks, IsCertificate, IsRefused, IsRefusedFile, refused_text}
use Rattle.command_answers.specs.PlanAnswers.{verdict_status}
use Rattle.command_answers.specs.PlayedGames.{played_on}
use Rattle.command_answers.specs.Refusals.{IsFaulty, IsTooSmall, kernel_fault_text, too_small_text}
use Rattle.command_answers.specs.Status.{is_own}
use Rattle.desk_io.specs.Known.{ToldFile}
use Rattle.command_answers.proofs.Accepting.{accepted_once, no_fault_of_accepted, one_kernel_fault}
use Rattle.command_answers.proofs.FirstPlans.{is_too_small}
use Rattle.command_answers.proofs.OneChecks as one_file
use Rattle.command_answers.proofs.OneChecks.{AreOne}
use Rattle.command_answers.proofs.ToldBytes.{not_missing, told_bytes}
use Rattle.improve_answers.specs.declared.commands.ImproveCommand.{ImproveCommand}
use Rattle.improve_answers.specs.declared.commands.ImproveCommand.TheVariants.{Improve, Confirm}
use Rattle.improve_answers.specs.declared.commands.Improving.{Improving}
use Rattle.improve_answers.specs.Confirms.{Confirms, IsConfirmed, confirmed_text}
use Rattle.improve_answers.specs.Improved.{IsImproved}
use Rattle.improve_answers.proofs.Effortless.{one_without_effort}
use Rattle.improve_answers.specs.ImproveUsage.{IsUsage}
use Rattle.improve_answers.specs.ImproveWords.{IsInLimits, slots_of}
use Rattle.improve_cli.specs.Answers.{Answers, usage, faulty_kernel, too_few_slots, own_answer, OwnAnswers, IsAdmitted}
use Rattle.improve_cli.specs.AnswerLaws.{FixedAnswersAreOne, NoFaultIsAnAnswer, TablesAreOfImprove, UsageOnly, UsageAlways, KernelOnly, KernelAlways, TooSmallOnly, TooSmallAlways, OwnOnly, OwnAlways, ImproveStatuses, ConfirmStatuses, ConfirmedWhereCertified, RefusedWhereNot}
use Rattle.improve_cli.specs.Faults.{IsFileTold, IsFixed, effortless, refusal, not_improve, reads_file, writes_file}

-- ---- the own answers

-- the status of a verdict is an own one
verdict_is_own : (optimal : Bool) → is_own (verdict_status optimal) ≡ true
verdict_is_own true = refl
verdict_is_own false = refl

-- of an own answer: nothing refuses the input, the status is an own one, a table goes only with `improve`, and a file that is read is there
pub record IsKept (asked : ImproveCommand) (input : List ℕ) (file : ToldFile) (status : Status) (table : Option (List ℕ)) : Type 0 where
  pub admitted : IsAdmitted asked input
  pub own : is_own status ≡ true
  pub untold : writes_file (Some asked) ≡ false → table ≡ None
  pub held : reads_file (Some asked) ≡ true → file ≡ Some None → ⊥

pub own_kept : (asked : ImproveCommand) (input : List ℕ) (file : ToldFile) (status : Status) (printed : List ℕ) (table : Option (List ℕ))
    → OwnAnswers asked input file status printed table → IsKept asked input file status table
own_kept (Improve asked) input file status printed table h = record {
  admitted = record { kernel = h.kernel; graph = h.graph; accepted = h.accepted; room = h.room };
  own = ap is_own h.ends ∙ verdict_is_own h.numbers.optimal;
  untold = λ e. absurd (cc);
  held = λ e. absurd (cc);
}
own_kept (Confirm asked) input file status printed table (inl h) = record {
  admitted = record { kernel = h.certified.kernel; graph = h.certified.graph; accepted = h.certified.accepted; room = h.certified.room };
  own = ap is_own h.certified.ends;
  untold = λ e. h.certified.none;
  held = λ e. not_missing file h.certified.bytes h.certified.held;
}
own_kept (Confirm asked) input file status printed table (inr h) = record {
  admitted = record { kernel = h.kernel; graph = h.graph; accepted = h.accepted; room = h.room };
  own = ap is_own h.ends;
  untold = λ e. h.none;
  held = λ e. not_missing file h.bytes h.held;
}

-- ---- the answers of one command

-- the kinds of answers of a command
pub data Kinds (asked : ImproveCommand) (input : List ℕ) (file : ToldFile) (status : Status) (printed : List ℕ) (table : Option (List ℕ)) : Type 0 where
  faulty : IsFaulty input status printed table → Kinds asked input file status printed table
  small : IsTooSmall (slots_of asked) input status printed table → Kinds asked input file status printed table
  own : OwnAnswers asked input file status printed table → Kinds asked input file status printed table

-- each answer of a command is of one of these kinds
pub kind_of : {command : Option ImproveCommand} (asked : ImproveCommand) {input : List ℕ} {file : ToldFile} {status : Status} {printed : List ℕ} {table : Option (List ℕ)}
    → command ≡ Some asked → Answers command input file status printed table → Kinds asked input file status printed table
kind_of {command} asked {input} {file} {status} {printed} {table} is (usage none k) = absurd (cc)
kind_of {command} asked {input} {file} {status} {printed} {table} is (faulty_kernel other other_is k) = faulty k
kind_of {command} asked {input} {file} {status} {printed} {table} is (too_few_slots other other_is k) =
    let same : other ≡ asked = cc in
    subst (λ a. Kinds a input file status printed table) same (small k)
kind_of {command} asked {input} {file} {status} {printed} {table} is (own_answer other other_is k) =
    let same : other ≡ asked = cc in
    subst (λ a. Kinds a input file status printed table) same (own k)

-- ---- no two kinds meet

-- the degree of the one graph of a text
one_degree : (text : List ℕ) (k j : KernelParts) (g h : GraphParts) → IsAccepted text k g → IsAccepted text j h → degree (dag_of g) ≡ degree (dag_of h)
one_degree text k j g h a b = ap (λ x. degree (dag_of x)) (accepted_once text k j g h a b).1

-- a kernel with a fault is not admitted
fault_refuses : (asked : ImproveCommand) (input : List ℕ) (code at : ℕ) → IsKernelFault input code at → IsAdmitted asked input → ⊥
fault_refuses asked input code at fault h = no_fault_of_accepted input h.kernel h.graph code at h.accepted fault

-- nor is one with too few slots
few_refuse : (asked : ImproveCommand) (input : List ℕ) (kernel : KernelParts) (graph : GraphParts) → IsAccepted input kernel graph
    → slots_of asked ≤ degree (dag_of graph) → IsAdmitted asked input → ⊥
few_refuse asked input kernel graph accepted few h =
    let same = one_degree input kernel h.kernel graph h.graph accepted h.accepted in
    let room = h.room in
    omega (arith, room, few, same)

to_fault : (asked : ImproveCommand) (input : List ℕ) (file : ToldFile) (code at : ℕ) (status : Status) (printed : List ℕ) (table : Option (List ℕ)) → IsKernelFault input code at
    → Kinds asked input file status printed table → AreOne status Kernel printed (kernel_fault_text code at) table None
to_fault asked input file code at status printed table fault (faulty k) =
    let same = one_kernel_fault input k.code code k.at at k.fault fault in
    let line : kernel_fault_text k.code k.at ≡ kernel_fault_text code at = λ i. kernel_fault_text (same.0 i) (same.1 i) in
    (k.ends, k.line ∙ line, k.none)
to_fault asked input file code at status printed table fault (small k) = absurd (no_fault_of_accepted input k.kernel k.graph code at k.accepted fault)
to_fault asked input file code at status printed table fault (own k) =
    absurd (fault_refuses asked input code at fault (own_kept asked input file status printed table k).admitted)

to_small : (asked : ImproveCommand) (input : List ℕ) (file : ToldFile) (kernel : KernelParts) (graph : GraphParts) (status : Status) (printed : List ℕ) (table : Option (List ℕ))
    → IsAccepted input kernel graph → slots_of asked ≤ degree (dag_of graph) → Kinds asked input file status printed table
    → AreOne status TooSmall printed (too_small_text (degree (dag_of graph) + 1)) table None
to_small asked input file kernel graph status printed table accepted few (faulty k) = absurd (no_fault_of_accepted input kernel graph k.code k.at accepted k.fault)
to_small asked input file kernel graph status printed table accepted few (small k) =
    let same = one_degree input k.kernel kernel k.graph graph k.accepted accepted in
    (k.ends, k.line ∙ ap (λ d. too_small_text (d + 1)) same, k.none)
to_small asked input file kernel graph status printed table accepted few (own k) =
    absurd (few_refuse asked input kernel graph accepted few (own_kept asked input file status printed table k).admitted)

pub to_own : (asked : ImproveCommand) (input : List ℕ) (file : ToldFile) (status : Status) (printed : List ℕ) (table : Option (List ℕ)) → IsAdmitted asked input
    → Kinds asked input file status printed table → OwnAnswers asked input file status printed table
to_own asked input file status printed table admitted (faulty k) = absurd (fault_refuses asked input k.code k.at k.fault admitted)
to_own asked input file status printed table admitted (small k) = absurd (few_refuse asked input k.kernel k.graph k.accepted k.small admitted)
to_own asked input file status printed table admitted (own k) = k

-- ---- the answers of `confirm`

-- the file of two answers is one, and so is its certificate
confirmed_once : (asked : Checking) (text : List ℕ) (file : ToldFile) (held : Option (List ℕ)) (s t : Status) (p q : List ℕ) (a b : Option (List ℕ))
    → file ≡ Some held → IsConfirmed asked text file s p a → IsConfirmed asked text file t q b → AreOne s t p q a b
confirmed_once asked text file held s t p q a b told h k =
    let x = h.certified in
    let y = k.certified in
    let here = one_file.moved (λ g bytes. IsCertificate g bytes x.certificate) asked text x.kernel y.kernel x.graph y.graph x.bytes y.bytes x.accepted y.accepted (told_bytes file held x.bytes y.bytes told x.held y.held) x.certifies in
    let same = one_file.one_certificate (played_on y.graph asked.slots asked.weights) y.bytes x.certificate y.certificate here y.certifies in
    (x.ends ∙ sym y.ends, h.line ∙ ap (λ c. confirmed_text c.bound) same ∙ sym k.line, x.none ∙ sym y.none)

confirm_once : (asked : Checking) (text : List ℕ) (file : ToldFile) (held : Option (List ℕ)) (s t : Status) (p q : List ℕ) (a b : Option (List ℕ))
    → file ≡ Some held → Confirms asked text file s p a → Confirms asked text file t q b → AreOne s t p q a b
confirm_once asked text file held s t p q a b told (inl h) (inl k) = confirmed_once asked text file held s t p q a b told h k
confirm_once asked text file held s t p q a b told (inl h) (inr k) =
    let both = one_file.one_check asked text file held s t h.accepted q a b told (inl h.certified) (inr k) in
    absurd (let is : Done ≡ Refused = sym h.certified.ends ∙ both.0 ∙ k.ends in cc)
confirm_once asked text file held s t p q a b told (inr h) (inl k) =
    let both = one_file.one_check asked text file held s t p k.accepted a b told (inr h) (inl k.certified) in
    absurd (let is : Refused ≡ Done = sym h.ends ∙ both.0 ∙ k.certified.ends in cc)
confirm_once asked text file held s t p q a b told (inr h) (inr k) = one_file.one_reason asked text file held s t p q a b told h k

-- ---- one answer

meet : {s t x : Status} {p q y : List ℕ} {a b z : Option (List ℕ)} → s ≡ x → p ≡ y → a ≡ z → AreOne t x q y b z → AreOne s t p q a b
meet ends line table other = (ends ∙ sym other.0, line ∙ sym other.1, table ∙ sym other.2)

-- an own answer is fixed of `confirm`, and of `improve` without effort
own_once : (asked : ImproveCommand) (input : List ℕ) (file : ToldFile) (s t : Status) (p q : List ℕ) (a b : Option (List ℕ)) → is_own s ≡ true → IsFixed (Some asked) (is_own s)
    → (is_own s ≡ true → IsFileTold (Some asked) file) → OwnAnswers asked input file s p a → OwnAnswers asked input file t q b → AreOne s t p q a b
own_once (Improve asked) input file s t p q a b owned (refusal not) told h k = absurd (let both : true ≡ false = sym owned ∙ not in cc)
own_once (Improve asked) input file s t p q a b owned (not_improve idle) told h k = absurd (cc)
own_once (Improve asked) input file s t p q a b owned (effortless other same none) told h k =
    let effort : asked.effort ≡ other.effort = ap (λ (o : Improving). o.effort) (let is : asked ≡ other = cc in is) in
    one_without_effort asked input s t p q a b (effort ∙ none) h k
own_once (Confirm asked) input file s t p q a b owned fixed told h k =
    let known = told owned refl in
    confirm_once asked input file known.0 s t p q a b known.1 h k

one_kind : (asked : ImproveCommand) (input : List ℕ) (file : ToldFile) (s t : Status) (p q : List ℕ) (a b : Option (List ℕ)) → (is_own s ≡ true → IsFileTold (Some asked) file)
    → IsFixed (Some asked) (is_own s) → Kinds asked input file s p a → Kinds asked input file t q b → AreOne s t p q a b
one_kind asked input file s t p q a b told fixed (faulty k) other = meet k.ends k.line k.none (to_fault asked input file k.code k.at t q b k.fault other)
one_kind asked input file s t p q a b told fixed (small k) other = meet k.ends k.line k.none (to_small asked input file k.kernel k.graph t q b k.accepted k.small other)
one_kind asked input file s t p q a b told fixed (own k) other =
    let kept = own_kept asked input file s p a k in
    own_once asked input file s t p q a b kept.own fixed told k (to_own asked input file t q b kept.admitted other)

-- an answer to no command is Usage
pub to_usage : {command : Option ImproveCommand} {input : List ℕ} {file : ToldFile} {status : Status} {printed : List ℕ} {table : Option (List ℕ)}
    → command ≡ None → Answers command input file status printed table → IsUsage status printed table
to_usage is (usage none k) = k
to_usage is (faulty_kernel other other_is k) = absurd (cc)
to_usage is (too_few_slots other other_is k) = absurd (cc)
to_usage is (own_answer other other_is k) = absurd (cc)

by_command : (command found : Option ImproveCommand) (input : List ℕ) (file : ToldFile) (s t : Status) (p q : List ℕ) (a b : Option (List ℕ)) → command ≡ found
    → (is_own s ≡ true → IsFileTold found file) → IsFixed found (is_own s) → Answers command input file s p a → Answers command input file t q b → AreOne s t p q a b
by_command command None input file s t p q a b is told fixed h k =
    let here = to_usage is h in
    let there = to_usage is k in
    meet here.ends here.line here.none (there.ends, there.line, there.none)
by_command command (Some asked) input file s t p q a b is told fixed h k = one_kind asked input file s t p q a b told fixed (kind_of asked is h) (kind_of asked is k)

pub fixed_answers_are_one : FixedAnswersAreOne
fixed_answers_are_one command input file status printed table h other text bytes told fixed k = by_command command command input file status other printed text table bytes refl told fixed h k

-- ---- what a status says

-- an own status is none of the others
own_is_not : {X : Type 0} (status other : Status) → status ≡ other → is_own status ≡ true → is_own other ≡ false → X
own_is_not status other same a b = absurd (let both : true ≡ false = sym a ∙ ap is_own same ∙ b in cc)

own_status : (asked : ImproveCommand) (input : List ℕ) (file : ToldFile) (status : Status) (printed : List ℕ) (table : Option (List ℕ))
    → OwnAnswers asked input file status printed table → is_own status ≡ true
own_status asked input file status printed table k = (own_kept asked input file status printed table k).own

both_are : {status a b : Status} → status ≡ a → status ≡ b → a ≡ b
both_are first second = sym first ∙ second

pub usage_only : UsageOnly
usage_only command input file status printed table (usage none k) at = (none, k)
usage_only command input file status printed table (faulty_kernel asked is k) at = let both = both_are k.ends at in absurd (cc)
usage_only command input file status printed table (too_few_slots asked is k) at = let both = both_are k.ends at in absurd (cc)
usage_only command input file status printed table (own_answer asked is k) at = own_is_not status Usage at (own_status asked input file status printed table k) refl

pub usage_always : UsageAlways
usage_always input file = usage refl (record { ends = refl; line = refl; none = refl })

pub kernel_only : KernelOnly
kernel_only command input file status printed table (usage none k) at = let both = both_are k.ends at in absurd (cc)
kernel_only command input file status printed table (faulty_kernel asked is k) at = (asked, is, k)
kernel_only command input file status printed table (too_few_slots asked is k) at = let both = both_are k.ends at in absurd (cc)
kernel_only command input file status printed table (own_answer asked is k) at = own_is_not status Kernel at (own_status asked input file status printed table k) refl

pub kernel_always : KernelAlways
kernel_always asked input file code at fault =
    faulty_kernel asked refl (record { code = code; at = at; fault = fault; ends = refl; line = refl; none = refl })

pub too_small_only : TooSmallOnly
too_small_only command input file status printed table (usage none k) at = let both = both_are k.ends at in absurd (cc)
too_small_only command input file status printed table (faulty_kernel asked is k) at = let both = both_are k.ends at in absurd (cc)
too_small_only command input file status printed table (too_few_slots asked is k) at = (asked, is, k)
too_small_only command input file status printed table (own_answer asked is k) at = own_is_not status TooSmall at (own_status asked input file status printed table k) refl

-- a command in its limits has at least one slot
some_slots : (asked : ImproveCommand) → IsInLimits asked → 0 < slots_of asked
some_slots (Improve asked) limits = omega (arith, limits.0)
some_slots (Confirm asked) limits = omega (arith, limits.0)

pub too_small_always : TooSmallAlways
too_small_always asked input file kernel graph limits accepted few =
    too_few_slots asked refl
    (is_too_small (slots_of asked) (degree (dag_of graph) + 1) input kernel graph TooSmall (too_small_text (degree (dag_of graph) + 1)) None (some_slots asked limits) accepted few refl refl refl refl)

pub own_only : OwnOnly
own_only command input file status printed table (usage none k) at = own_is_not status Usage k.ends at refl
own_only command input file status printed table (faulty_kernel asked is k) at = own_is_not status Kernel k.ends at refl
own_only command input file status printed table (too_few_slots asked is k) at = own_is_not status TooSmall k.ends at refl
own_only command input file status printed table (own_answer asked is k) at = (asked, is, (own_kept asked input file status printed table k).admitted, k)

pub own_always : OwnAlways
own_always command input file status printed table h asked is admitted =
    own_status asked input file status printed table (to_own asked input file status printed table admitted (kind_of asked is h))

-- a status with another that is no fault
no_fault_at : (status other : Status) → status ≡ other → other ≢ ReadFault → other ≢ WriteFault → other ≢ NoMemory
    → (status ≢ ReadFault) × ((status ≢ WriteFault) × (status ≢ NoMemory))
no_fault_at status other s a b c = (λ e. a (sym s ∙ e), (λ e. b (sym s ∙ e), λ e. c (sym s ∙ e)))

pub no_fault : NoFaultIsAnAnswer
no_fault command input file status printed table (usage none k) = no_fault_at status Usage k.ends (λ e. cc) (λ e. cc) (λ e. cc)
no_fault command input file status printed table (faulty_kernel asked is k) = no_fault_at status Kernel k.ends (λ e. cc) (λ e. cc) (λ e. cc)
no_fault command input file status printed table (too_few_slots asked is k) = no_fault_at status TooSmall k.ends (λ e. cc) (λ e. cc) (λ e. cc)
no_fault command input file status printed table (own_answer asked is k) =
    let own = own_status asked input file status printed table k in
    (λ e. own_is_not status ReadFault e own refl, (λ e. own_is_not status WriteFault e own refl, λ e. own_is_not status NoMemory e own refl))

-- ---- tables

pub tables_are_of_improve : TablesAreOfImprove
tables_are_of_improve command input file status printed table (usage none k) at = k.none
tables_are_of_improve command input file status printed table (faulty_kernel asked is k) at = k.none
tables_are_of_improve command input file status printed table (too_few_slots asked is k) at = k.none
tables_are_of_improve command input file status printed table (own_answer asked is k) (inl idle) =
    (own_kept asked input file status printed table k).untold (sym (ap writes_file is) ∙ idle)
tables_are_of_improve command input file status printed table (own_answer asked is k) (inr early) =
    absurd (let own = own_status asked input file status printed table k in cc)

-- a table goes only if nothing refuses the input
pub refused_without_table : (asked : ImproveCommand) (input : List ℕ) (file : ToldFile) (status : Status) (printed : List ℕ) (table : Option (List ℕ))
    → (IsAdmitted asked input → ⊥) → Kinds asked input file status printed table → table ≡ None
refused_without_table asked input file status printed table not (faulty k) = k.none
refused_without_table asked input file status printed table not (small k) = k.none
refused_without_table asked input file status printed table not (own k) = absurd (not (own_kept asked input file status printed table k).admitted)

-- if a file that is to be read is missing, an admitted input has no answer
pub no_answer_without_file : {X : Type 0} (asked : ImproveCommand) (input : List ℕ) (status : Status) (printed : List ℕ) (table : Option (List ℕ))
    → reads_file (Some asked) ≡ true → IsAdmitted asked input → Kinds asked input (Some None) status printed table → X
no_answer_without_file asked input status printed table reads admitted kind =
    let answer = to_own asked input (Some None) status printed table admitted kind in
    absurd ((own_kept asked input (Some None) status printed table answer).held reads refl)

-- ---- the own statuses

-- the status of a verdict is Optimal or Open
verdict_is : (optimal : Bool) → (verdict_status optimal ≡ Optimal) ⊎ (verdict_status optimal ≡ Open)
verdict_is true = inl refl
verdict_is false = inr refl

pub improve_statuses : ImproveStatuses
improve_statuses asked input file status printed table h admitted =
    let own = to_own (Improve asked) input file status printed table admitted (kind_of (Improve asked) refl h) in
    (subst (λ s. (s ≡ Optimal) ⊎ (s ≡ Open)) (sym own.ends) (verdict_is own.numbers.optimal), own)

pub confirm_statuses : ConfirmStatuses
confirm_statuses asked input file status printed table h admitted = by (to_own (Confirm asked) input file status printed table admitted (kind_of (Confirm asked) refl h))
  where
    by : Confirms asked input file status printed table
        → ((status ≡ Done) × IsConfirmed asked input file status printed table) ⊎ ((status ≡ Refused) × IsRefusedFile asked input file status printed table)
    by (inl k) = inl (k.certified.ends, k)
    by (inr k) = inr (k.ends, k)

-- an accepted kernel with enough slots is admitted to `confirm`
confirm_admits : (asked : Checking) (input : List ℕ) (kernel : KernelParts) (graph : GraphParts) → IsAccepted input kernel graph → degree (dag_of graph) < asked.slots
    → IsAdmitted (Confirm asked) input
confirm_admits asked input kernel graph accepted room = record { kernel = kernel; graph = graph; accepted = accepted; room = room }

pub confirmed_where_certified : ConfirmedWhereCertified
confirmed_where_certified asked input bytes status printed table kernel graph h accepted room t is =
    by (to_own (Confirm asked) input (Some (Some bytes)) status printed table (confirm_admits asked input kernel graph accepted room) (kind_of (Confirm asked) refl h))
  where
    by : Confirms asked input (Some (Some bytes)) status printed table → (status ≡ Done) × (printed ≡ confirmed_text t.bound)
    by (inl h) =
        let k = h.certified in
        let here = one_file.moved (λ g bytes. IsCertificate g bytes t) asked input kernel k.kernel graph k.graph bytes k.bytes accepted k.accepted k.held is in
        let same = one_file.one_certificate (played_on k.graph asked.slots asked.weights) k.bytes k.certificate t k.certifies here in
        (k.ends, h.line ∙ ap (λ c. confirmed_text c.bound) same)
    by (inr k) =
        let here = one_file.moved (λ g bytes. IsCertificate g bytes t) asked input kernel k.kernel graph k.graph bytes k.bytes accepted k.accepted k.held is in
        one_file.certified_or_not (played_on k.graph asked.slots asked.weights) k.bytes t k.reason k.row here k.refused

pub refused_where_not : RefusedWhereNot
refused_where_not asked input bytes status printed table kernel graph h accepted room reason row is =
    by (to_own (Confirm asked) input (Some (Some bytes)) status printed table (confirm_admits asked input kernel graph accepted room) (kind_of (Confirm asked) refl h))
  where
    by : Confirms asked input (Some (Some bytes)) status printed table → (status ≡ Refused) × (printed ≡ refused_text reason row)
    by (inl h) =
        let k = h.certified in
        let here = one_file.moved (λ g bytes. IsRefused g bytes reason row) asked input kernel k.kernel graph k.graph bytes k.bytes accepted k.accepted k.held is in
        one_file.certified_or_not (played_on k.graph asked.slots asked.weights) k.bytes k.certificate reason row k.certifies here
    by (inr k) =
        let here = one_file.moved (λ g bytes. IsRefused g bytes reason row) asked input kernel k.kernel graph k.graph bytes k.bytes accepted k.accepted k.held is in
        let same = one_file.one_refusal (played_on k.graph asked.slots asked.weights) k.bytes k.reason reason k.row row k.refused here in
        let line : refused_text k.reason k.row ≡ refused_text reason row = λ i. refused_text (same.0 i) (same.1 i) in
        (k.ends, k.line ∙ line)
