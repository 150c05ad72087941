-- Where each status of `exec` stands, over the definitions alone, and that what `plan` prints runs as the source does.
use Rattle.std.specs.Prelude.{◌≡◌, ◌⊎◌, ◌≤◌, ℕ, ℤ, List, ◌++◌, length, Option, Some, Ok, Err}
use Rattle.comp_graph.specs.Games.{unit_weights}
use Rattle.comp_graph.specs.Graphs.{GraphParts}
use Rattle.kernel_ast.specs.KernelParts.{KernelParts}
use Rattle.scratch_machine.specs.Codes.{CodeParts}
use Rattle.scratch_machine.specs.Machines.{Ending, Fault, run, transfers}
use Rattle.command_words.specs.declared.commands.Command.TheVariants.{Plan, Run, Exec}
use Rattle.command_words.specs.declared.commands.Planning.{Planning}
use Rattle.command_answers.specs.declared.status.Status.{Status}
use Rattle.command_answers.specs.declared.status.Status.TheVariants.{Done, Code, Values, ExecFault}
use Rattle.command_answers.specs.Accepted.{IsAccepted}
use Rattle.pebble_cli.specs.Answers.{Answers}
use Rattle.command_answers.specs.CodeInputs.{IsCodeInput, IsNoCode}
use Rattle.command_answers.specs.ExecAnswers.{IsRunToEnd, IsEmptyRead, IsWrongInputs, exec_fault_text, place_of, ran_text, transfers_text}
use Rattle.command_answers.specs.PlanAnswers.{IsPlanned}
use Rattle.command_answers.specs.RightCodes.{run_weight}
use Rattle.command_answers.specs.RunAnswers.{IsValuesFile}
use Rattle.desk_io.specs.Known.{ToldFile}
use Rattle.command_answers.specs.ValuesFiles.{HoldsValues, HoldsNone, values_fault_text}
use Rattle.command_words.specs.Words.{IsInLimits}

-- The answers of `exec`: that the input is no code, the outputs of the run, a read of what is empty, or that the file holds no values.
abbrev pub ExecStatuses : Type 0
ExecStatuses = (input : List ℕ) (file : ToldFile) (status : Status) (printed : List ℕ) (table : Option (List ℕ))
    → Answers (Some Exec) input file status printed table
    → ((status ≡ Code) × IsNoCode input status printed table) ⊎ (((status ≡ Done) × IsRunToEnd input file status printed table)
    ⊎ (((status ≡ ExecFault) × IsEmptyRead input file status printed table) ⊎ ((status ≡ Values) × IsWrongInputs input file status printed table)))

-- Something holds of each answer of `exec` to an input that is a code and a file with these bytes.
abbrev pub OfExecs : (CodeParts → List ℕ → Status → List ℕ → Type 0) → Type 0
OfExecs P = (input bytes : List ℕ) (status : Status) (printed : List ℕ) (table : Option (List ℕ)) (code : CodeParts)
    → Answers (Some Exec) input (Some (Some bytes)) status printed table → IsCodeInput input code → P code bytes status printed

-- It is Done where the file holds a value for each input and the run on these values comes to an end, whose outputs and transfers are printed;
-- ExecFault where the run reads what is empty, whose place is printed; and Values where the file holds no such values.
abbrev pub DoneWhereRun : Type 0
DoneWhereRun = OfExecs (λ code bytes status printed. (values : List ℤ) (ending : Ending) → HoldsValues (length code.inputs) bytes values
    → run code values ≡ Ok ending → (status ≡ Done) × (printed ≡ ran_text code ending))

abbrev pub FaultWhereEmpty : Type 0
FaultWhereEmpty = OfExecs (λ code bytes status printed. (values : List ℤ) (fault : Fault) → HoldsValues (length code.inputs) bytes values
    → run code values ≡ Err fault → (status ≡ ExecFault) × (printed ≡ exec_fault_text (place_of fault)))

abbrev pub ValuesWhereWrong : Type 0
ValuesWhereWrong = OfExecs (λ code bytes status printed. HoldsNone (length code.inputs) bytes → (status ≡ Values) × (printed ≡ values_fault_text))

-- What `plan` prints of a kernel, where it has at most 20,000,000 bytes, is the text of its code.
abbrev pub PlansReadBack : Type 0
PlansReadBack = (asked : Planning) (text : List ℕ) (status : Status) (printed : List ℕ) (table : Option (List ℕ)) → IsInLimits (Plan asked)
    → (h : IsPlanned asked text status printed table) → length printed ≤ 20000000 → IsCodeInput printed h.plan.code

-- On each file that holds values of the kernel, `run` on the kernel and `exec` on what `plan` printed of it are both Done, whatever answers
-- them, and `exec` prints the lines that `run` prints, and then the number of loads and stores of the run, which weigh the printed cost of
-- the plan. Where a load and a store cost 1, that number is the printed cost.
abbrev pub PlansRunAsSources : Type 0
PlansRunAsSources = (asked : Planning) (text : List ℕ) (status : Status) (printed : List ℕ) (table : Option (List ℕ)) → IsInLimits (Plan asked)
    → (h : IsPlanned asked text status printed table) → length printed ≤ 20000000 → (kernel : KernelParts) (graph : GraphParts) (bytes : List ℕ) (values : List ℤ) → IsAccepted text kernel graph → IsValuesFile kernel bytes values
    → (ran executed : Status) (lines more : List ℕ) (none other : Option (List ℕ)) → Answers (Some Run) text (Some (Some bytes)) ran lines none
    → Answers (Some Exec) printed (Some (Some bytes)) executed more other → (ran ≡ Done) × (executed ≡ Done) × ((ending : Ending)
    × (run h.plan.code values ≡ Ok ending) × (more ≡ lines ++ transfers_text (transfers ending)) × (run_weight asked.weights ending ≡ h.plan.numbers.cost)
    × (asked.weights ≡ unit_weights → transfers ending ≡ h.plan.numbers.cost))
