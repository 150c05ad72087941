-- Laws of the answers over the definitions alone, with no desk: words, an input and a file have one answer, each refusal stands exactly
-- where its cause is met, and a command's own answer exactly where none is. The laws of a command's own statuses stand in a file of its own.
use Rattle.std.specs.Prelude.{◌≡◌, ◌≢◌, ◌⊎◌, ℕ, ◌+◌, ◌≤◌, true, false, List, Option, None, Some}
use Rattle.comp_graph.specs.Dags.{degree}
use Rattle.comp_graph.specs.Graphs.{GraphParts, dag_of}
use Rattle.kernel_ast.specs.KernelParts.{KernelParts}
use Rattle.command_words.specs.declared.commands.Command.{Command}
use Rattle.command_words.specs.declared.commands.Subject.TheVariants.{InputCode}
use Rattle.command_answers.specs.declared.status.Status.{Status}
use Rattle.command_answers.specs.declared.status.Status.TheVariants.{Usage, Kernel, TooSmall, ReadFault, WriteFault, NoMemory, Code}
use Rattle.command_answers.specs.Accepted.{IsAccepted, IsKernelFault}
use Rattle.pebble_cli.specs.Answers.{Answers, OwnAnswers, IsAdmitted}
use Rattle.command_answers.specs.CodeInputs.{IsCodeFault, IsNoCode, code_fault_text}
use Rattle.command_words.specs.Commands.{subject, slots_of, reads_file, reads_input, writes_file}
use Rattle.command_answers.specs.Subjects.{kernel_text}
use Rattle.pebble_cli.specs.Faults.{IsFileTold}
use Rattle.command_answers.specs.Refusals.{IsUsage, IsFaulty, IsTooSmall, usage_text, kernel_fault_text, too_small_text}
use Rattle.command_answers.specs.Status.{is_own}
use Rattle.desk_io.specs.Known.{ToldFile}
use Rattle.command_words.specs.Words.{command, IsInLimits}

-- Something holds of each answer.
abbrev pub OfAnswers : (Option Command → List ℕ → ToldFile → Status → List ℕ → Option (List ℕ) → Type 0) → Type 0
OfAnswers P = (asked : Option Command) (input : List ℕ) (file : ToldFile) (status : Status) (printed : List ℕ) (table : Option (List ℕ))
    → Answers asked input file status printed table → P asked input file status printed table

-- what a command on the kernel in the input answers with so many slots: a kernel's fault, too few slots, or its own
abbrev pub RefusedOr : List ℕ → ℕ → Status → List ℕ → Option (List ℕ) → Type 0 → Type 0
RefusedOr input slots status printed table Own =
    ((status ≡ Kernel) × IsFaulty input status printed table) ⊎ (((status ≡ TooSmall) × IsTooSmall slots input status printed table) ⊎ Own)

-- ---- one answer

-- Two answers to the same words, input and file are one: they have one status, one printed text and one table; a refusal in any case, a
-- command's own answer where the file is told that the words ask to read.
abbrev pub OneAnswer : Type 0
OneAnswer = OfAnswers (λ asked input file status printed table. (other : Status) (text : List ℕ) (bytes : Option (List ℕ))
    → (is_own status ≡ true → IsFileTold asked file) → Answers asked input file other text bytes → (status ≡ other) × (printed ≡ text) × (table ≡ bytes))

-- There is an answer to all words, each input and each file, but for a file that is missing where the command comes to read it: nothing
-- refuses the input.
abbrev pub SomeAnswer : Type 0
SomeAnswer = (words : List (List ℕ)) (input : List ℕ) (file : ToldFile)
    → ((asked : Command) → command words ≡ Some asked → IsAdmitted asked input → reads_file (Some asked) ≡ true → file ≡ Some None → ⊥)
    → (status : Status) × (printed : List ℕ) × (table : Option (List ℕ)) × Answers (command words) input file status printed table

-- What answers words that read no input answers them with any, and what is admitted with one is admitted with any.
abbrev pub AnswersAnyInput : Type 0
AnswersAnyInput = OfAnswers (λ asked input file status printed table. (other : List ℕ) → reads_input asked ≡ false
    → Answers asked other file status printed table)

abbrev pub AdmitsAnyInput : Type 0
AdmitsAnyInput = (asked : Command) (input other : List ℕ) → reads_input (Some asked) ≡ false → IsAdmitted asked input → IsAdmitted asked other

-- No answer is a fault of the desk or of memory.
abbrev pub NoFaultIsAnAnswer : Type 0
NoFaultIsAnAnswer = OfAnswers (λ asked input file status printed table. (status ≢ ReadFault) × ((status ≢ WriteFault) × (status ≢ NoMemory)))

-- A table goes only with a command that writes the file, and with no refusal.
abbrev pub TablesAreOfWriters : Type 0
TablesAreOfWriters = OfAnswers (λ asked input file status printed table. (writes_file asked ≡ false) ⊎ (is_own status ≡ false) → table ≡ None)

-- ---- where each refusal stands

-- Usage stands only where the words spell no command, and there it stands always.
abbrev pub UsageOnly : Type 0
UsageOnly = OfAnswers (λ asked input file status printed table. status ≡ Usage → (asked ≡ None) × IsUsage status printed table)

abbrev pub UsageAlways : Type 0
UsageAlways = (input : List ℕ) (file : ToldFile) → Answers None input file Usage usage_text None

-- Kernel stands only where the command works on a kernel that has a fault, which is printed, and there it stands always.
abbrev pub KernelOnly : Type 0
KernelOnly = OfAnswers (λ command input file status printed table. status ≡ Kernel → (asked : Command) × (text : List ℕ) × (command ≡ Some asked)
    × (kernel_text (subject asked) input ≡ Some text) × IsFaulty text status printed table)

abbrev pub KernelAlways : Type 0
KernelAlways = (asked : Command) (input text : List ℕ) (file : ToldFile) (code at : ℕ) → kernel_text (subject asked) input ≡ Some text
    → IsKernelFault text code at → Answers (Some asked) input file Kernel (kernel_fault_text code at) None

-- Code stands only where the command works on code and the input is none, whose line is printed, and there it stands always.
abbrev pub CodeOnly : Type 0
CodeOnly = OfAnswers (λ command input file status printed table. status ≡ Code → (asked : Command) × (command ≡ Some asked)
    × (subject asked ≡ InputCode) × IsNoCode input status printed table)

abbrev pub CodeAlways : Type 0
CodeAlways = (asked : Command) (input : List ℕ) (file : ToldFile) (line : ℕ) → subject asked ≡ InputCode
    → IsCodeFault input line → Answers (Some asked) input file Code (code_fault_text line) None

-- TooSmall stands only where the command has slots and works on an accepted kernel whose degree is no less, and there it stands always.
abbrev pub TooSmallOnly : Type 0
TooSmallOnly = OfAnswers (λ command input file status printed table. status ≡ TooSmall → (asked : Command) × (text : List ℕ) × (slots : ℕ)
    × (command ≡ Some asked) × (kernel_text (subject asked) input ≡ Some text) × (slots_of asked ≡ Some slots) × IsTooSmall slots text status printed table)

abbrev pub TooSmallAlways : Type 0
TooSmallAlways = (asked : Command) (input text : List ℕ) (file : ToldFile) (slots : ℕ) (kernel : KernelParts) (graph : GraphParts)
    → IsInLimits asked → kernel_text (subject asked) input ≡ Some text → slots_of asked ≡ Some slots → IsAccepted text kernel graph
    → slots ≤ degree (dag_of graph) → Answers (Some asked) input file TooSmall (too_small_text (degree (dag_of graph) + 1)) None

-- ---- where a command's own answer stands

-- It stands only where nothing refuses the input, and it is one that the command's own definition gives.
abbrev pub OwnOnly : Type 0
OwnOnly = OfAnswers (λ command input file status printed table. is_own status ≡ true → (asked : Command) × (command ≡ Some asked)
    × IsAdmitted asked input × OwnAnswers asked input file status printed table)

-- There no other answer stands.
abbrev pub OwnAlways : Type 0
OwnAlways = OfAnswers (λ command input file status printed table. (asked : Command) → command ≡ Some asked → IsAdmitted asked input → is_own status ≡ true)
