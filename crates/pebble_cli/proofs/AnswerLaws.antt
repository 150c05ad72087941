-- The laws of the answers of all commands: one answer, some answer, and where each refusal and a command's own answer stand.
use Rattle.std.proofs.Common.{◌≡◌, ◌≢◌, ℕ, ◌+◌, ◌<◌, ◌≤◌, true, false, List, Option, Some, None, inl, inr, refl, sym, ap, ◌∙◌, subst, arith}
use Rattle.std.proofs.lemmas.Bool.{cases_lt}
use Rattle.comp_graph.specs.Dags.{degree}
use Rattle.comp_graph.specs.Graphs.{GraphParts, dag_of}
use Rattle.kernel_ast.specs.KernelParts.{KernelParts}
use Rattle.kernel_gen.specs.Trials.{trial_kernel}
use Rattle.command_words.specs.declared.commands.Command.{Command}
use Rattle.command_words.specs.declared.commands.Command.TheVariants.{Plan, Check, Run, Exec, Graph, Trial, Cover, CoverCheck, Parts, Judge, Tidy, Cache}
use Rattle.command_words.specs.declared.commands.Subject.{Subject}
use Rattle.command_words.specs.declared.commands.Subject.TheVariants.{InputKernel, InputCode, TrialKernel}
use Rattle.command_answers.specs.declared.status.Status.{Status}
use Rattle.command_answers.specs.declared.status.Status.TheVariants.{Usage, Kernel, TooSmall, ReadFault, WriteFault, NoMemory, Code}
use Rattle.command_answers.specs.Accepted.{IsAccepted, IsKernelFault}
use Rattle.pebble_cli.specs.Answers.{Answers, usage, faulty_kernel, no_code, too_few_slots, own_answer, OwnAnswers, IsAdmitted, kernel_with_room, code_input, HasRoom}
use Rattle.pebble_cli.specs.AnswerLaws.{OneAnswer, SomeAnswer, NoFaultIsAnAnswer, TablesAreOfWriters, UsageOnly, UsageAlways, KernelOnly, KernelAlways, CodeOnly, CodeAlways, TooSmallOnly, TooSmallAlways, OwnOnly, OwnAlways}
use Rattle.command_answers.specs.CodeInputs.{IsCodeFault, IsNoCode, code_fault_text}
use Rattle.command_words.specs.Commands.{subject, slots_of, reads_file, writes_file}
use Rattle.command_answers.specs.Subjects.{kernel_text}
use Rattle.pebble_cli.specs.Faults.{IsFileTold}
use Rattle.command_answers.specs.Refusals.{IsUsage, IsFaulty, IsTooSmall, usage_text, kernel_fault_text, too_small_text}
use Rattle.command_answers.specs.Status.{is_own}
use Rattle.desk_io.specs.Known.{ToldFile}
use Rattle.command_words.specs.Words.{command, IsInLimits}
use Rattle.command_answers.proofs.Accepting.{accepted_once, accepted_or_fault, no_fault_of_accepted, one_kernel_fault}
use Rattle.pebble_cli.proofs.CacheKept.{cache_kept}
use Rattle.pebble_cli.proofs.CheckKept.{check_kept}
use Rattle.pebble_cli.proofs.CoverKept.{cover_kept, cover_check_kept}
use Rattle.command_answers.proofs.CodeInputs.{no_fault_of_code, code_or_fault, one_code_fault}
use Rattle.pebble_cli.proofs.ExecKept.{exec_kept}
use Rattle.pebble_cli.proofs.GraphKept.{graph_kept}
use Rattle.pebble_cli.proofs.OwnAnswers.{HasOwn, AreKept, AreOne}
use Rattle.pebble_cli.proofs.PlanKept.{plan_kept}
use Rattle.command_answers.proofs.FirstPlans.{is_too_small}
use Rattle.pebble_cli.proofs.RunKept.{run_kept}
use Rattle.pebble_cli.proofs.PartsKept.{parts_kept}
use Rattle.pebble_cli.proofs.PlaysKept.{judge_kept, tidy_kept}
use Rattle.pebble_cli.proofs.TrialKept.{trial_kept}
use Rattle.command_words.proofs.WordLimits.{words_are_in_limits}

-- what is shown of the own answers of each command
pub own_kept : (asked : Command) → AreKept asked
own_kept (Plan asked) = plan_kept asked
own_kept (Check asked) = check_kept asked
own_kept Run = run_kept
own_kept Exec = exec_kept
own_kept Graph = graph_kept
own_kept (Trial asked) = trial_kept asked
own_kept (Cover asked) = cover_kept asked
own_kept (CoverCheck slots) = cover_check_kept slots
own_kept (Parts asked) = parts_kept asked
own_kept (Judge slots) = judge_kept slots
own_kept (Tidy slots) = tidy_kept slots
own_kept (Cache asked) = cache_kept asked

-- ---- the answers of one command

-- the kinds of answers of a command
pub data Kinds (asked : Command) (input : List ℕ) (file : ToldFile) (status : Status) (printed : List ℕ) (table : Option (List ℕ)) : Type 0 where
  faulty : (text : List ℕ) → kernel_text (subject asked) input ≡ Some text → IsFaulty text status printed table → Kinds asked input file status printed table
  not_code : subject asked ≡ InputCode → IsNoCode input status printed table → Kinds asked input file status printed table
  small : (text : List ℕ) (slots : ℕ) → kernel_text (subject asked) input ≡ Some text → slots_of asked ≡ Some slots → IsTooSmall slots text status printed table
      → Kinds asked input file status printed table
  last : OwnAnswers asked input file status printed table → Kinds asked input file status printed table

-- each answer of a command is of one of these kinds
pub kind_of : {command : Option Command} (asked : Command) {input : List ℕ} {file : ToldFile} {status : Status} {printed : List ℕ} {table : Option (List ℕ)}
    → command ≡ Some asked → Answers command input file status printed table → Kinds asked input file status printed table
kind_of {command} asked {input} {file} {status} {printed} {table} is (usage none k) = absurd (cc)
kind_of {command} asked {input} {file} {status} {printed} {table} is (faulty_kernel other text other_is e k) =
    let same : other ≡ asked = cc in
    subst (λ a. Kinds a input file status printed table) same (faulty text e k)
kind_of {command} asked {input} {file} {status} {printed} {table} is (no_code other other_is e k) =
    let same : other ≡ asked = cc in
    subst (λ a. Kinds a input file status printed table) same (not_code e k)
kind_of {command} asked {input} {file} {status} {printed} {table} is (too_few_slots other text slots other_is e has k) =
    let same : other ≡ asked = cc in
    subst (λ a. Kinds a input file status printed table) same (small text slots e has k)
kind_of {command} asked {input} {file} {status} {printed} {table} is (own_answer other other_is k) =
    let same : other ≡ asked = cc in
    subst (λ a. Kinds a input file status printed table) same (last k)

-- ---- no two kinds meet

-- the degree of the one graph of a text
one_degree : (text : List ℕ) (k j : KernelParts) (g h : GraphParts) → IsAccepted text k g → IsAccepted text j h → degree (dag_of g) ≡ degree (dag_of h)
one_degree text k j g h a b = ap (λ x. degree (dag_of x)) (accepted_once text k j g h a b).1

-- the texts of one subject are one
one_text : {X : Option (List ℕ)} {a b : List ℕ} → X ≡ Some a → X ≡ Some b → b ≡ a
one_text first second = cc

-- a code is no kernel
no_kernel : {X : Type 0} (s : Subject) (input text : List ℕ) → s ≡ InputCode → kernel_text s input ≡ Some text → X
no_kernel InputKernel input text is e = absurd (cc)
no_kernel InputCode input text is e = absurd (cc)
no_kernel (TrialKernel statements) input text is e = absurd (cc)

-- a kernel with a fault is not admitted
fault_refuses : (asked : Command) (input text : List ℕ) (code at : ℕ) → kernel_text (subject asked) input ≡ Some text → IsKernelFault text code at → IsAdmitted asked input → ⊥
fault_refuses asked input text code at is fault (kernel_with_room other other_is h) =
    no_fault_of_accepted text h.kernel h.graph code at (subst (λ t. IsAccepted t h.kernel h.graph) (one_text is other_is) h.accepted) fault
fault_refuses asked input text code at is fault (code_input c other_is h) = no_kernel (subject asked) input text other_is is

-- nor is an input that is no code, where the command works on code
code_refuses : (asked : Command) (input : List ℕ) (line : ℕ) → subject asked ≡ InputCode → IsCodeFault input line → IsAdmitted asked input → ⊥
code_refuses asked input line is fault (kernel_with_room text other_is h) = no_kernel (subject asked) input text is other_is
code_refuses asked input line is fault (code_input c other_is h) = no_fault_of_code input c line h fault

-- nor is one with too few slots
few_refuse : (asked : Command) (input text : List ℕ) (slots : ℕ) (kernel : KernelParts) (graph : GraphParts) → kernel_text (subject asked) input ≡ Some text
    → slots_of asked ≡ Some slots → IsAccepted text kernel graph → slots ≤ degree (dag_of graph) → IsAdmitted asked input → ⊥
few_refuse asked input text slots kernel graph is has accepted few (kernel_with_room other other_is h) =
    let room = h.room slots has in
    let same = one_degree text kernel h.kernel graph h.graph accepted (subst (λ t. IsAccepted t h.kernel h.graph) (one_text is other_is) h.accepted) in
    omega (arith, room, few, same)
few_refuse asked input text slots kernel graph is has accepted few (code_input c other_is h) = no_kernel (subject asked) input text other_is is

-- a kernel with too few slots has no fault
few_has_no_fault : (asked : Command) (input text other : List ℕ) (code at : ℕ) (kernel : KernelParts) (graph : GraphParts) → kernel_text (subject asked) input ≡ Some text
    → kernel_text (subject asked) input ≡ Some other → IsKernelFault text code at → IsAccepted other kernel graph → ⊥
few_has_no_fault asked input text other code at kernel graph is other_is fault accepted =
    no_fault_of_accepted text kernel graph code at (subst (λ t. IsAccepted t kernel graph) (one_text is other_is) accepted) fault

-- ---- what is answered where a cause is met

to_fault : (asked : Command) (input text : List ℕ) (file : ToldFile) (code at : ℕ) (status : Status) (printed : List ℕ) (table : Option (List ℕ))
    → kernel_text (subject asked) input ≡ Some text → IsKernelFault text code at → Kinds asked input file status printed table
    → AreOne status Kernel printed (kernel_fault_text code at) table None
to_fault asked input text file code at status printed table is fault (faulty other other_is k) =
    let same = one_kernel_fault text k.code code k.at at (subst (λ t. IsKernelFault t k.code k.at) (one_text is other_is) k.fault) fault in
    let line : kernel_fault_text k.code k.at ≡ kernel_fault_text code at = λ i. kernel_fault_text (same.0 i) (same.1 i) in
    (k.ends, k.line ∙ line, k.none)
to_fault asked input text file code at status printed table is fault (not_code other_is k) = no_kernel (subject asked) input text other_is is
to_fault asked input text file code at status printed table is fault (small other slots other_is has k) =
    absurd (few_has_no_fault asked input text other code at k.kernel k.graph is other_is fault k.accepted)
to_fault asked input text file code at status printed table is fault (last k) =
    absurd (fault_refuses asked input text code at is fault ((own_kept asked).each input file status printed table k).admitted)

to_code : (asked : Command) (input : List ℕ) (file : ToldFile) (line : ℕ) (status : Status) (printed : List ℕ) (table : Option (List ℕ))
    → subject asked ≡ InputCode → IsCodeFault input line → Kinds asked input file status printed table → AreOne status Code printed (code_fault_text line) table None
to_code asked input file line status printed table is fault (faulty text other_is k) = no_kernel (subject asked) input text is other_is
to_code asked input file line status printed table is fault (not_code other_is k) =
    (k.ends, k.line ∙ ap code_fault_text (one_code_fault input k.at line k.fault fault), k.none)
to_code asked input file line status printed table is fault (small text slots other_is has k) = no_kernel (subject asked) input text is other_is
to_code asked input file line status printed table is fault (last k) =
    absurd (code_refuses asked input line is fault ((own_kept asked).each input file status printed table k).admitted)

to_small : (asked : Command) (input text : List ℕ) (file : ToldFile) (slots : ℕ) (kernel : KernelParts) (graph : GraphParts) (status : Status) (printed : List ℕ) (table : Option (List ℕ))
    → kernel_text (subject asked) input ≡ Some text → slots_of asked ≡ Some slots → IsAccepted text kernel graph → slots ≤ degree (dag_of graph)
    → Kinds asked input file status printed table → AreOne status TooSmall printed (too_small_text (degree (dag_of graph) + 1)) table None
to_small asked input text file slots kernel graph status printed table is has accepted few (faulty other other_is k) =
    absurd (few_has_no_fault asked input other text k.code k.at kernel graph other_is is k.fault accepted)
to_small asked input text file slots kernel graph status printed table is has accepted few (not_code other_is k) = no_kernel (subject asked) input text other_is is
to_small asked input text file slots kernel graph status printed table is has accepted few (small other others other_is others_has k) =
    let same = one_degree text k.kernel kernel k.graph graph (subst (λ t. IsAccepted t k.kernel k.graph) (one_text is other_is) k.accepted) accepted in
    (k.ends, k.line ∙ ap (λ d. too_small_text (d + 1)) same, k.none)
to_small asked input text file slots kernel graph status printed table is has accepted few (last k) =
    absurd (few_refuse asked input text slots kernel graph is has accepted few ((own_kept asked).each input file status printed table k).admitted)

pub to_own : (asked : Command) (input : List ℕ) (file : ToldFile) (status : Status) (printed : List ℕ) (table : Option (List ℕ))
    → IsAdmitted asked input → Kinds asked input file status printed table → OwnAnswers asked input file status printed table
to_own asked input file status printed table admitted (faulty text is k) = absurd (fault_refuses asked input text k.code k.at is k.fault admitted)
to_own asked input file status printed table admitted (not_code is k) = absurd (code_refuses asked input k.at is k.fault admitted)
to_own asked input file status printed table admitted (small text slots is has k) = absurd (few_refuse asked input text slots k.kernel k.graph is has k.accepted k.small admitted)
to_own asked input file status printed table admitted (last k) = k

-- ---- one answer

-- two answers that are one with a third
meet : {s t x : Status} {p q y : List ℕ} {a b z : Option (List ℕ)} → s ≡ x → p ≡ y → a ≡ z → AreOne t x q y b z → AreOne s t p q a b
meet ends line table other = (ends ∙ sym other.0, line ∙ sym other.1, table ∙ sym other.2)

one_kind : (asked : Command) (input : List ℕ) (file : ToldFile) (s t : Status) (p q : List ℕ) (a b : Option (List ℕ)) → (is_own s ≡ true → IsFileTold (Some asked) file)
    → Kinds asked input file s p a → Kinds asked input file t q b → AreOne s t p q a b
one_kind asked input file s t p q a b told (faulty text is k) other = meet k.ends k.line k.none (to_fault asked input text file k.code k.at t q b is k.fault other)
one_kind asked input file s t p q a b told (not_code is k) other = meet k.ends k.line k.none (to_code asked input file k.at t q b is k.fault other)
one_kind asked input file s t p q a b told (small text slots is has k) other =
    meet k.ends k.line k.none (to_small asked input text file slots k.kernel k.graph t q b is has k.accepted k.small other)
one_kind asked input file s t p q a b told (last k) other =
    let kept = (own_kept asked).each input file s p a k in
    (own_kept asked).once input file s t p q a b (told kept.last) k (to_own asked input file t q b kept.admitted other)

-- an answer to no command is Usage
pub to_usage : {command : Option Command} {input : List ℕ} {file : ToldFile} {status : Status} {printed : List ℕ} {table : Option (List ℕ)}
    → command ≡ None → Answers command input file status printed table → IsUsage status printed table
to_usage is (usage none k) = k
to_usage is (faulty_kernel other text other_is e k) = absurd (cc)
to_usage is (no_code other other_is e k) = absurd (cc)
to_usage is (too_few_slots other text slots other_is e has k) = absurd (cc)
to_usage is (own_answer other other_is k) = absurd (cc)

by_command : (command found : Option Command) (input : List ℕ) (file : ToldFile) (s t : Status) (p q : List ℕ) (a b : Option (List ℕ)) → command ≡ found
    → (is_own s ≡ true → IsFileTold found file) → Answers command input file s p a → Answers command input file t q b → AreOne s t p q a b
by_command command None input file s t p q a b is told h k =
    let here = to_usage is h in
    let there = to_usage is k in
    meet here.ends here.line here.none (there.ends, there.line, there.none)
by_command command (Some asked) input file s t p q a b is told h k = one_kind asked input file s t p q a b told (kind_of asked is h) (kind_of asked is k)

pub one_answer : OneAnswer
one_answer command input file status printed table h other text bytes told k = by_command command command input file status other printed text table bytes refl told h k

-- ---- what a status says

-- a status of a command's own answer is none of the others
own_is_not : {X : Type 0} (status other : Status) → status ≡ other → is_own status ≡ true → is_own other ≡ false → X
own_is_not status other same a b = absurd (let both : true ≡ false = sym a ∙ ap is_own same ∙ b in cc)

-- each answer of a command's own has such a status
own_status : (asked : Command) (input : List ℕ) (file : ToldFile) (status : Status) (printed : List ℕ) (table : Option (List ℕ))
    → OwnAnswers asked input file status printed table → is_own status ≡ true
own_status asked input file status printed table k = ((own_kept asked).each input file status printed table k).last

-- two statuses of one answer
both_are : {status a b : Status} → status ≡ a → status ≡ b → a ≡ b
both_are first second = sym first ∙ second

pub usage_only : UsageOnly
usage_only command input file status printed table (usage none k) at = (none, k)
usage_only command input file status printed table (faulty_kernel asked text is e k) at = let both = both_are k.ends at in absurd (cc)
usage_only command input file status printed table (no_code asked is e k) at = let both = both_are k.ends at in absurd (cc)
usage_only command input file status printed table (too_few_slots asked text slots is e has k) at = let both = both_are k.ends at in absurd (cc)
usage_only command input file status printed table (own_answer asked is k) at = own_is_not status Usage at (own_status asked input file status printed table k) refl

pub usage_always : UsageAlways
usage_always input file = usage refl (record { ends = refl; line = refl; none = refl })

pub kernel_only : KernelOnly
kernel_only command input file status printed table (usage none k) at = let both = both_are k.ends at in absurd (cc)
kernel_only command input file status printed table (faulty_kernel asked text is e k) at = (asked, text, is, e, k)
kernel_only command input file status printed table (no_code asked is e k) at = let both = both_are k.ends at in absurd (cc)
kernel_only command input file status printed table (too_few_slots asked text slots is e has k) at = let both = both_are k.ends at in absurd (cc)
kernel_only command input file status printed table (own_answer asked is k) at = own_is_not status Kernel at (own_status asked input file status printed table k) refl

pub kernel_always : KernelAlways
kernel_always asked input text file code at is fault =
    faulty_kernel asked text refl is (record { code = code; at = at; fault = fault; ends = refl; line = refl; none = refl })

pub code_only : CodeOnly
code_only command input file status printed table (usage none k) at = let both = both_are k.ends at in absurd (cc)
code_only command input file status printed table (faulty_kernel asked text is e k) at = let both = both_are k.ends at in absurd (cc)
code_only command input file status printed table (no_code asked is e k) at = (asked, is, e, k)
code_only command input file status printed table (too_few_slots asked text slots is e has k) at = let both = both_are k.ends at in absurd (cc)
code_only command input file status printed table (own_answer asked is k) at = own_is_not status Code at (own_status asked input file status printed table k) refl

pub code_always : CodeAlways
code_always asked input file line is fault = no_code asked refl is (record { at = line; fault = fault; ends = refl; line = refl; none = refl })

pub too_small_only : TooSmallOnly
too_small_only command input file status printed table (usage none k) at = let both = both_are k.ends at in absurd (cc)
too_small_only command input file status printed table (faulty_kernel asked text is e k) at = let both = both_are k.ends at in absurd (cc)
too_small_only command input file status printed table (no_code asked is e k) at = let both = both_are k.ends at in absurd (cc)
too_small_only command input file status printed table (too_few_slots asked text slots is e has k) at = (asked, text, slots, is, e, has, k)
too_small_only command input file status printed table (own_answer asked is k) at = own_is_not status TooSmall at (own_status asked input file status printed table k) refl

-- a command in its limits has at least one slot, if it has slots
some_slots : (asked : Command) (slots : ℕ) → IsInLimits asked → slots_of asked ≡ Some slots → 0 < slots
some_slots (Plan asked) slots limits has = let same : asked.slots ≡ slots = cc in omega (arith, limits.0, same)
some_slots (Check asked) slots limits has = let same : asked.slots ≡ slots = cc in omega (arith, limits.0, same)
some_slots Run slots limits has = absurd (cc)
some_slots Exec slots limits has = absurd (cc)
some_slots Graph slots limits has = absurd (cc)
some_slots (Trial asked) slots limits has = let same : asked.slots ≡ slots = cc in omega (arith, limits.1.0, same)
some_slots (Cover asked) slots limits has = let same : asked.slots ≡ slots = cc in omega (arith, limits.0, same)
some_slots (CoverCheck count) slots limits has = let same : count ≡ slots = cc in omega (arith, limits.0, same)
some_slots (Parts asked) slots limits has = let same : asked.slots ≡ slots = cc in omega (arith, limits.0, same)
some_slots (Judge count) slots limits has = let same : count ≡ slots = cc in omega (arith, limits.0, same)
some_slots (Tidy count) slots limits has = let same : count ≡ slots = cc in omega (arith, limits.0, same)
some_slots (Cache asked) slots limits has = let same : asked.slots ≡ slots = cc in omega (arith, limits.0, same)

pub too_small_always : TooSmallAlways
too_small_always asked input text file slots kernel graph limits is has accepted few =
    too_few_slots asked text slots refl is has
    (is_too_small slots (degree (dag_of graph) + 1) text kernel graph TooSmall (too_small_text (degree (dag_of graph) + 1)) None (some_slots asked slots limits has) accepted few refl refl refl refl)

pub own_only : OwnOnly
own_only command input file status printed table (usage none k) at = own_is_not status Usage k.ends at refl
own_only command input file status printed table (faulty_kernel asked text is e k) at = own_is_not status Kernel k.ends at refl
own_only command input file status printed table (no_code asked is e k) at = own_is_not status Code k.ends at refl
own_only command input file status printed table (too_few_slots asked text slots is e has k) at = own_is_not status TooSmall k.ends at refl
own_only command input file status printed table (own_answer asked is k) at =
    (asked, is, ((own_kept asked).each input file status printed table k).admitted, k)

pub own_always : OwnAlways
own_always command input file status printed table h asked is admitted =
    own_status asked input file status printed table (to_own asked input file status printed table admitted (kind_of asked is h))

-- a status with another that is no fault
no_fault_at : (status other : Status) → status ≡ other → other ≢ ReadFault → other ≢ WriteFault → other ≢ NoMemory
    → (status ≢ ReadFault) × ((status ≢ WriteFault) × (status ≢ NoMemory))
no_fault_at status other s a b c = (λ e. a (sym s ∙ e), (λ e. b (sym s ∙ e), λ e. c (sym s ∙ e)))

pub no_fault : NoFaultIsAnAnswer
no_fault command input file status printed table (usage none k) = no_fault_at status Usage k.ends (λ e. cc) (λ e. cc) (λ e. cc)
no_fault command input file status printed table (faulty_kernel asked text is e k) = no_fault_at status Kernel k.ends (λ e. cc) (λ e. cc) (λ e. cc)
no_fault command input file status printed table (no_code asked is e k) = no_fault_at status Code k.ends (λ e. cc) (λ e. cc) (λ e. cc)
no_fault command input file status printed table (too_few_slots asked text slots is e has k) = no_fault_at status TooSmall k.ends (λ e. cc) (λ e. cc) (λ e. cc)
no_fault command input file status printed table (own_answer asked is k) =
    let last = own_status asked input file status printed table k in
    (λ e. own_is_not status ReadFault e last refl, (λ e. own_is_not status WriteFault e last refl, λ e. own_is_not status NoMemory e last refl))

-- ---- tables

pub tables_are_of_writers : TablesAreOfWriters
tables_are_of_writers command input file status printed table (usage none k) at = k.none
tables_are_of_writers command input file status printed table (faulty_kernel asked text is e k) at = k.none
tables_are_of_writers command input file status printed table (no_code asked is e k) at = k.none
tables_are_of_writers command input file status printed table (too_few_slots asked text slots is e has k) at = k.none
tables_are_of_writers command input file status printed table (own_answer asked is k) (inl idle) =
    ((own_kept asked).each input file status printed table k).untold (sym (ap writes_file is) ∙ idle)
tables_are_of_writers command input file status printed table (own_answer asked is k) (inr early) =
    absurd (let last = own_status asked input file status printed table k in cc)

-- a table goes only where nothing refuses the input
pub refused_without_table : (asked : Command) (input : List ℕ) (file : ToldFile) (status : Status) (printed : List ℕ) (table : Option (List ℕ))
    → (IsAdmitted asked input → ⊥) → Kinds asked input file status printed table → table ≡ None
refused_without_table asked input file status printed table not (faulty text is k) = k.none
refused_without_table asked input file status printed table not (not_code is k) = k.none
refused_without_table asked input file status printed table not (small text slots is has k) = k.none
refused_without_table asked input file status printed table not (last k) = absurd (not ((own_kept asked).each input file status printed table k).admitted)

-- where a file that is to be read is missing, an admitted input has no answer
pub no_answer_without_file : {X : Type 0} (asked : Command) (input : List ℕ) (status : Status) (printed : List ℕ) (table : Option (List ℕ))
    → reads_file (Some asked) ≡ true → IsAdmitted asked input → Kinds asked input (Some None) status printed table → X
no_answer_without_file asked input status printed table reads admitted kind =
    let answer = to_own asked input (Some None) status printed table admitted kind in
    absurd (((own_kept asked).each input (Some None) status printed table answer).held reads refl)

-- ---- some answer

-- an answer
abbrev HasAnswer : Option Command → List ℕ → ToldFile → Type 0
HasAnswer command input file = (status : Status) × (printed : List ℕ) × (table : Option (List ℕ)) × Answers command input file status printed table

from_own : (asked : Command) (input : List ℕ) (file : ToldFile) → HasOwn asked input file → HasAnswer (Some asked) input file
from_own asked input file h = (h.status, h.printed, h.table, own_answer asked refl h.answer)

-- a file that is missing is not read: nothing refuses the input only where the file is there
abbrev IsThere : Command → List ℕ → ToldFile → Type 0
IsThere asked input file = IsAdmitted asked input → reads_file (Some asked) ≡ true → file ≡ Some None → ⊥

from_admitted : (asked : Command) (input : List ℕ) (file : ToldFile) → IsInLimits asked → IsThere asked input file → IsAdmitted asked input
    → HasAnswer (Some asked) input file
from_admitted asked input file limits there admitted = from_own asked input file ((own_kept asked).some input file limits (there admitted) admitted)

by_slots : (asked : Command) (input text : List ℕ) (file : ToldFile) (kernel : KernelParts) (graph : GraphParts) (slots : Option ℕ) → IsInLimits asked
    → IsThere asked input file → kernel_text (subject asked) input ≡ Some text → IsAccepted text kernel graph → slots_of asked ≡ slots
    → HasAnswer (Some asked) input file
by_slots asked input text file kernel graph None limits there is accepted has =
    let room : HasRoom (slots_of asked) text = record { kernel = kernel; graph = graph; accepted = accepted; room = λ count e. absurd (cc) } in
    from_admitted asked input file limits there (kernel_with_room text is room)
by_slots asked input text file kernel graph (Some slots) limits there is accepted has = elim (cases_lt (degree (dag_of graph)) slots) [
  | inl room ↦
      let admitted : HasRoom (slots_of asked) text = record { kernel = kernel; graph = graph; accepted = accepted; room = λ count e. (let same : slots ≡ count = cc in omega (arith, room, same)) } in
      from_admitted asked input file limits there (kernel_with_room text is admitted)
  | inr few ↦ (TooSmall, too_small_text (degree (dag_of graph) + 1), None, too_small_always asked input text file slots kernel graph limits is has accepted (omega (arith, few)))
]

by_text : (asked : Command) (input text : List ℕ) (file : ToldFile) → IsInLimits asked → IsThere asked input file
    → kernel_text (subject asked) input ≡ Some text → HasAnswer (Some asked) input file
by_text asked input text file limits there is = elim (accepted_or_fault text) [
  | inl a ↦ by_slots asked input text file a.0 a.1 (slots_of asked) limits there is a.2 refl
  | inr f ↦ (Kernel, kernel_fault_text f.0 f.1, None, kernel_always asked input text file f.0 f.1 is f.2)
]

by_code : (asked : Command) (input : List ℕ) (file : ToldFile) → IsInLimits asked → IsThere asked input file
    → subject asked ≡ InputCode → HasAnswer (Some asked) input file
by_code asked input file limits there is = elim (code_or_fault input) [
  | inl c ↦ from_admitted asked input file limits there (code_input c.0 is c.1)
  | inr f ↦ (Code, code_fault_text f.0, None, code_always asked input file f.0 is f.1)
]

by_subject : (asked : Command) (input : List ℕ) (file : ToldFile) (s : Subject) → IsInLimits asked → IsThere asked input file
    → subject asked ≡ s → HasAnswer (Some asked) input file
by_subject asked input file InputKernel limits there is = by_text asked input input file limits there (ap (λ s. kernel_text s input) is)
by_subject asked input file InputCode limits there is = by_code asked input file limits there is
by_subject asked input file (TrialKernel statements) limits there is = by_text asked input (trial_kernel statements) file limits there (ap (λ s. kernel_text s input) is)

by_words : (found : Option Command) (input : List ℕ) (file : ToldFile) → ((asked : Command) → found ≡ Some asked → IsInLimits asked)
    → ((asked : Command) → found ≡ Some asked → IsThere asked input file) → HasAnswer found input file
by_words None input file limits there = (Usage, usage_text, None, usage_always input file)
by_words (Some asked) input file limits there = by_subject asked input file (subject asked) (limits asked refl) (there asked refl) refl

pub some_answer : SomeAnswer
some_answer words input file there = by_words (command words) input file (words_are_in_limits words) there
