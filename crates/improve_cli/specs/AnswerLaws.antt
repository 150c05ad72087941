-- Laws of the answers over the definitions alone, with no desk: words, an input and a file have an answer, which is fixed but for the plan and the
-- table of `improve`; each refusal comes exactly if its cause is met, and a command's own answer exactly if none is.
use Rattle.std.specs.Prelude.{◌≡◌, ◌≢◌, ◌⊎◌, ℕ, ◌+◌, ◌≤◌, ◌<◌, true, false, List, Option, None, Some}
use Rattle.comp_graph.specs.Dags.{IsDag, degree}
use Rattle.comp_graph.specs.Games.{PebbleGame}
use Rattle.comp_graph.specs.Graphs.{GraphParts, dag_of}
use Rattle.kernel_ast.specs.KernelParts.{KernelParts}
use Rattle.potential_cert.specs.Table.{TableParts}
use Rattle.slot_alloc.specs.PlanCode.{plan_code}
use Rattle.command_words.specs.declared.commands.Checking.{Checking}
use Rattle.command_answers.specs.declared.status.Status.{Status}
use Rattle.command_answers.specs.declared.status.Status.TheVariants.{Optimal, Done, Refused, Usage, Kernel, TooSmall, Open, ReadFault, WriteFault, NoMemory}
use Rattle.command_answers.specs.Accepted.{IsAccepted, IsKernelFault}
use Rattle.command_answers.specs.CheckAnswers.{IsCertificate, IsRefused, IsRefusedFile, refused_text}
use Rattle.command_answers.specs.PlanAnswers.{IsPlanned, plan_text}
use Rattle.command_answers.specs.PlayedGames.{played_on}
use Rattle.command_answers.specs.Refusals.{IsFaulty, IsTooSmall, kernel_fault_text, too_small_text}
use Rattle.command_answers.specs.Status.{is_own}
use Rattle.desk_io.specs.Known.{ToldFile}
use Rattle.improve_answers.specs.declared.commands.ImproveCommand.{ImproveCommand}
use Rattle.improve_answers.specs.declared.commands.ImproveCommand.TheVariants.{Improve, Confirm}
use Rattle.improve_answers.specs.declared.commands.Improving.{Improving}
use Rattle.improve_answers.specs.Confirms.{IsConfirmed, confirmed_text}
use Rattle.improve_answers.specs.Improved.{IsImproved, without_budget}
use Rattle.improve_answers.specs.ImproveUsage.{IsUsage, usage_text}
use Rattle.improve_answers.specs.ImproveWords.{IsInLimits, command, slots_of}
use Rattle.improve_cli.specs.Answers.{Answers, OwnAnswers, IsAdmitted}
use Rattle.improve_cli.specs.Faults.{IsFileTold, IsFixed, writes_file}

-- Something holds of each answer.
abbrev pub OfAnswers : (Option ImproveCommand → List ℕ → ToldFile → Status → List ℕ → Option (List ℕ) → Type 0) → Type 0
OfAnswers P = (asked : Option ImproveCommand) (input : List ℕ) (file : ToldFile) (status : Status) (printed : List ℕ) (table : Option (List ℕ))
    → Answers asked input file status printed table → P asked input file status printed table

-- There is an answer to all words, each input and each file, but for a file that is missing if `confirm` comes to read it: nothing refuses the input.
abbrev pub SomeAnswer : Type 0
SomeAnswer = (words : List (List ℕ)) (input : List ℕ) (file : ToldFile)
    → ((asked : Checking) → command words ≡ Some (Confirm asked) → IsAdmitted (Confirm asked) input → file ≡ Some None → ⊥)
    → (status : Status) × (printed : List ℕ) × (table : Option (List ℕ)) × Answers (command words) input file status printed table

-- An answer that is fixed, a refusal, one of `confirm` to a file that is told, or one of `improve` with the effort 0, is the only one.
abbrev pub FixedAnswersAreOne : Type 0
FixedAnswersAreOne = OfAnswers (λ asked input file status printed table. (other : Status) (text : List ℕ) (bytes : Option (List ℕ))
    → (is_own status ≡ true → IsFileTold asked file) → IsFixed asked (is_own status) → Answers asked input file other text bytes
    → (status ≡ other) × (printed ≡ text) × (table ≡ bytes))

-- No answer is a fault of the desk or of memory.
abbrev pub NoFaultIsAnAnswer : Type 0
NoFaultIsAnAnswer = OfAnswers (λ asked input file status printed table. (status ≢ ReadFault) × ((status ≢ WriteFault) × (status ≢ NoMemory)))

-- A table goes only with `improve`, and with no refusal.
abbrev pub TablesAreOfImprove : Type 0
TablesAreOfImprove = OfAnswers (λ asked input file status printed table. (writes_file asked ≡ false) ⊎ (is_own status ≡ false) → table ≡ None)

-- Usage is answered only if the words spell no command, and then always.
abbrev pub UsageOnly : Type 0
UsageOnly = OfAnswers (λ asked input file status printed table. status ≡ Usage → (asked ≡ None) × IsUsage status printed table)

abbrev pub UsageAlways : Type 0
UsageAlways = (input : List ℕ) (file : ToldFile) → Answers None input file Usage usage_text None

-- Kernel is answered only if the kernel has a fault, which is printed, and then always.
abbrev pub KernelOnly : Type 0
KernelOnly = OfAnswers (λ command input file status printed table. status ≡ Kernel → (asked : ImproveCommand) × (command ≡ Some asked) × IsFaulty input status printed table)

abbrev pub KernelAlways : Type 0
KernelAlways = (asked : ImproveCommand) (input : List ℕ) (file : ToldFile) (code at : ℕ) → IsKernelFault input code at
    → Answers (Some asked) input file Kernel (kernel_fault_text code at) None

-- TooSmall is answered only if the kernel is accepted and its degree is no less than the slots, and then always.
abbrev pub TooSmallOnly : Type 0
TooSmallOnly = OfAnswers (λ command input file status printed table. status ≡ TooSmall
    → (asked : ImproveCommand) × (command ≡ Some asked) × IsTooSmall (slots_of asked) input status printed table)

abbrev pub TooSmallAlways : Type 0
TooSmallAlways = (asked : ImproveCommand) (input : List ℕ) (file : ToldFile) (kernel : KernelParts) (graph : GraphParts) → IsInLimits asked
    → IsAccepted input kernel graph → slots_of asked ≤ degree (dag_of graph) → Answers (Some asked) input file TooSmall (too_small_text (degree (dag_of graph) + 1)) None

-- A command's own answer is given only if nothing refuses the input, and it is one that the command's definition gives.
abbrev pub OwnOnly : Type 0
OwnOnly = OfAnswers (λ command input file status printed table. is_own status ≡ true → (asked : ImproveCommand) × (command ≡ Some asked)
    × IsAdmitted asked input × OwnAnswers asked input file status printed table)

-- Then no other answer is given.
abbrev pub OwnAlways : Type 0
OwnAlways = OfAnswers (λ command input file status printed table. (asked : ImproveCommand) → command ≡ Some asked → IsAdmitted asked input → is_own status ≡ true)

-- The own answers of `improve` are Optimal and Open.
abbrev pub ImproveStatuses : Type 0
ImproveStatuses = (asked : Improving) (input : List ℕ) (file : ToldFile) (status : Status) (printed : List ℕ) (table : Option (List ℕ))
    → Answers (Some (Improve asked)) input file status printed table → IsAdmitted (Improve asked) input
    → ((status ≡ Optimal) ⊎ (status ≡ Open)) × IsImproved asked input status printed table

-- The own answers of `confirm` are Done and Refused.
abbrev pub ConfirmStatuses : Type 0
ConfirmStatuses = (asked : Checking) (input : List ℕ) (file : ToldFile) (status : Status) (printed : List ℕ) (table : Option (List ℕ))
    → Answers (Some (Confirm asked)) input file status printed table → IsAdmitted (Confirm asked) input
    → ((status ≡ Done) × IsConfirmed asked input file status printed table) ⊎ ((status ≡ Refused) × IsRefusedFile asked input file status printed table)

-- Something holds of each answer of `confirm` to an accepted kernel with more slots than the degree of its graph, and a file with these bytes.
abbrev pub OfConfirms : (Checking → GraphParts → List ℕ → Status → List ℕ → Type 0) → Type 0
OfConfirms P = (asked : Checking) (input bytes : List ℕ) (status : Status) (printed : List ℕ) (table : Option (List ℕ)) (kernel : KernelParts) (graph : GraphParts)
    → Answers (Some (Confirm asked)) input (Some (Some bytes)) status printed table → IsAccepted input kernel graph
    → degree (dag_of graph) < asked.slots → P asked graph bytes status printed

-- It is Done if the bytes are a table file of the game, and its bound is printed; and Refused, with the reason and the row, if they are refused.
abbrev pub ConfirmedWhereCertified : Type 0
ConfirmedWhereCertified = OfConfirms (λ asked graph bytes status printed. (t : TableParts) → IsCertificate (played_on graph asked.slots asked.weights) bytes t
    → (status ≡ Done) × (printed ≡ confirmed_text t.bound))

abbrev pub RefusedWhereNot : Type 0
RefusedWhereNot = OfConfirms (λ asked graph bytes status printed. (reason row : ℕ) → IsRefused (played_on graph asked.slots asked.weights) bytes reason row
    → (status ≡ Refused) × (printed ≡ refused_text reason row))

-- ---- files

-- The bytes of a file are a table file of a game, or are refused for a reason and by a row; and not both.
abbrev pub CertifiedOrRefused : Type 0
CertifiedOrRefused = (g : PebbleGame) → IsDag g.dag → (bytes : List ℕ)
    → ((t : TableParts) × IsCertificate g bytes t) ⊎ ((reason : ℕ) × (row : ℕ) × IsRefused g bytes reason row)

abbrev pub NeverBoth : Type 0
NeverBoth = (g : PebbleGame) (bytes : List ℕ) (t : TableParts) (reason row : ℕ) → IsCertificate g bytes t → IsRefused g bytes reason row → ⊥

-- A file that `improve` wrote is confirmed with the same kernel, slots and weights, and with the printed bound.
abbrev pub ImprovementsAreConfirmed : Type 0
ImprovementsAreConfirmed = (asked : Improving) (input : List ℕ) (status : Status) (printed bytes : List ℕ) (h : IsImproved asked input status printed (Some bytes))
    → Answers (Some (Confirm (record { slots = asked.slots; weights = asked.weights }))) input (Some (Some bytes)) Done (confirmed_text h.numbers.bound) None

-- ---- no effort

-- An answer of `improve` with the effort 0 is that of `plan` with the budget 0: its numbers, its code, its status and its table. Only the line of the
-- effort is printed in place of that of the budget.
abbrev pub EffortlessIsPlanned : Type 0
EffortlessIsPlanned = (asked : Improving) (input : List ℕ) (status : Status) (printed : List ℕ) (table : Option (List ℕ)) → asked.effort ≡ 0
    → (h : IsImproved asked input status printed table)
    → IsPlanned (without_budget asked) input status (plan_text h.kernel.title h.graph (without_budget asked) (record { numbers = h.numbers; code = plan_code h.plan })) table
