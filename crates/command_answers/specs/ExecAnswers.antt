-- What `exec` answers to an input that is a code (this project's convention): the outputs of its run on the values in a file, with the
-- number of transfers; or where the machine reads what is empty; or that the file holds no values of the code.
use Rattle.std.specs.Prelude.{◌≡◌, ◌⊎◌, ℕ, ℤ, List, ◌++◌, length, map, codes, None, Ok, Err}
use Rattle.std.specs.declared.option.Option.{Option}
use Rattle.std.specs.Fmt.{decimal}
use Rattle.desk_io.specs.Known.{ToldFile, TellsFile}
use Rattle.plan_report.specs.OutputsText.{outputs_text}
use Rattle.scratch_machine.specs.declared.code.OutWord.{OutWord}
use Rattle.scratch_machine.specs.Codes.{CodeParts}
use Rattle.scratch_machine.specs.Machines.{Ending, Fault, empty_slot, empty_word, run, transfers}
use Rattle.command_answers.specs.declared.status.Status.{Status}
use Rattle.command_answers.specs.declared.status.Status.TheVariants.{Done, Values, ExecFault}
use Rattle.command_answers.specs.CodeInputs.{IsCodeInput}
use Rattle.command_answers.specs.ValuesFiles.{HoldsValues, HoldsNone, values_fault_text}

-- the last line of a run: how many loads and stores it made
abbrev pub transfers_text : ℕ → List ℕ
transfers_text count = codes "; transfers " ++ (decimal count ++ codes "\n")

-- a line for each output of the code with its label, in its order, and then the number of transfers
abbrev pub ran_text : CodeParts → Ending → List ℕ
ran_text code ending = outputs_text (map (λ (o : OutWord). o.label) code.outputs) ending.outputs ++ transfers_text (transfers ending)

-- the line for a run that reads what is empty
abbrev pub exec_fault_text : ℕ → List ℕ
exec_fault_text at = codes "exec fault at " ++ (decimal at ++ codes "\n")

-- where the machine reads what is empty: the number of an instruction, or past them of an output, from 0
abbrev pub place_of : Fault → ℕ
place_of (empty_slot at) = at
place_of (empty_word at) = at

-- The input is a code, the file holds a value for each of its inputs, and on these values its run comes to an end, whose outputs and
-- transfers are printed. No table is written.
pub record IsRunToEnd (text : List ℕ) (file : ToldFile) (status : Status) (printed : List ℕ) (table : Option (List ℕ)) : Type 0 where
  pub code : CodeParts
  pub input : IsCodeInput text code
  pub bytes : List ℕ
  pub held : TellsFile file bytes
  pub values : List ℤ
  pub given : HoldsValues (length code.inputs) bytes values
  pub ending : Ending
  pub runs : run code values ≡ Ok ending
  pub ends : status ≡ Done
  pub lines : printed ≡ ran_text code ending
  pub none : table ≡ None

-- The input is a code, the file holds a value for each of its inputs, and on these values its run reads what is empty, at a place that is
-- printed. No table is written.
pub record IsEmptyRead (text : List ℕ) (file : ToldFile) (status : Status) (printed : List ℕ) (table : Option (List ℕ)) : Type 0 where
  pub code : CodeParts
  pub input : IsCodeInput text code
  pub bytes : List ℕ
  pub held : TellsFile file bytes
  pub values : List ℤ
  pub given : HoldsValues (length code.inputs) bytes values
  pub fault : Fault
  pub faults : run code values ≡ Err fault
  pub ends : status ≡ ExecFault
  pub line : printed ≡ exec_fault_text (place_of fault)
  pub none : table ≡ None

-- The input is a code, the file does not hold a value for each of its inputs, and the line that says so is printed. No table is written.
pub record IsWrongInputs (text : List ℕ) (file : ToldFile) (status : Status) (printed : List ℕ) (table : Option (List ℕ)) : Type 0 where
  pub code : CodeParts
  pub input : IsCodeInput text code
  pub bytes : List ℕ
  pub held : TellsFile file bytes
  pub wrong : HoldsNone (length code.inputs) bytes
  pub ends : status ≡ Values
  pub line : printed ≡ values_fault_text
  pub none : table ≡ None

-- the three answers to a code and a file, as far as the desk tells the file
abbrev pub Executes : List ℕ → ToldFile → Status → List ℕ → Option (List ℕ) → Type 0
Executes text file status printed table =
    IsRunToEnd text file status printed table ⊎ (IsEmptyRead text file status printed table ⊎ IsWrongInputs text file status printed table)
