-- What `run` answers to an accepted kernel (this project's convention): the outputs on the values in a file, or that the file holds no
-- values of the kernel.
use Rattle.std.specs.Prelude.{◌≡◌, ◌⊎◌, ℕ, ℤ, List, length, None}
use Rattle.std.specs.declared.option.Option.{Option}
use Rattle.comp_graph.specs.Graphs.{GraphParts}
use Rattle.desk_io.specs.Known.{ToldFile, TellsFile}
use Rattle.kernel_ast.specs.declared.tree.DeclKind.TheVariants.{Input, Output}
use Rattle.kernel_ast.specs.KernelParts.{KernelParts}
use Rattle.kernel_ast.specs.Labels.{labels_of}
use Rattle.kernel_ast.specs.Meaning.{outputs}
use Rattle.plan_report.specs.OutputsText.{outputs_text}
use Rattle.command_answers.specs.declared.status.Status.{Status}
use Rattle.command_answers.specs.declared.status.Status.TheVariants.{Done, Values}
use Rattle.command_answers.specs.Accepted.{IsAccepted}
use Rattle.command_answers.specs.ValuesFiles.{HoldsValues, HoldsNone, values_fault_text}

-- the bytes are a values file of the kernel: they hold a value for each input element
abbrev pub IsValuesFile : KernelParts → List ℕ → List ℤ → Type 0
IsValuesFile kernel = HoldsValues (length (labels_of Input kernel.decls))

-- the bytes are no values file of the kernel
abbrev pub IsNoValuesFile : KernelParts → List ℕ → Type 0
IsNoValuesFile kernel = HoldsNone (length (labels_of Input kernel.decls))

-- The text is accepted, the file holds values of its kernel, and the outputs of the source on these values are printed, a line for each
-- output element with its label, in order of declaration and row by row. No table is written.
pub record IsValued (text : List ℕ) (file : ToldFile) (status : Status) (printed : List ℕ) (table : Option (List ℕ)) : Type 0 where
  pub kernel : KernelParts
  pub graph : GraphParts
  pub accepted : IsAccepted text kernel graph
  pub bytes : List ℕ
  pub held : TellsFile file bytes
  pub values : List ℤ
  pub given : IsValuesFile kernel bytes values
  pub ends : status ≡ Done
  pub lines : printed ≡ outputs_text (labels_of Output kernel.decls) (outputs kernel values)
  pub none : table ≡ None

-- The text is accepted, the file holds no values of its kernel, and the line that says so is printed. No table is written.
pub record IsWrongValues (text : List ℕ) (file : ToldFile) (status : Status) (printed : List ℕ) (table : Option (List ℕ)) : Type 0 where
  pub kernel : KernelParts
  pub graph : GraphParts
  pub accepted : IsAccepted text kernel graph
  pub bytes : List ℕ
  pub held : TellsFile file bytes
  pub wrong : IsNoValuesFile kernel bytes
  pub ends : status ≡ Values
  pub line : printed ≡ values_fault_text
  pub none : table ≡ None

-- the two answers to a run on the values of a file, as far as the desk tells the file
abbrev pub Runs : List ℕ → ToldFile → Status → List ℕ → Option (List ℕ) → Type 0
Runs text file status printed table = IsValued text file status printed table ⊎ IsWrongValues text file status printed table
