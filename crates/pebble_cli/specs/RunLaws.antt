-- Where each status of `run` stands, over the definitions alone.
use Rattle.std.specs.Prelude.{◌≡◌, ◌⊎◌, ℕ, ℤ, List, Option, Some}
use Rattle.comp_graph.specs.Graphs.{GraphParts}
use Rattle.kernel_ast.specs.declared.tree.DeclKind.TheVariants.{Output}
use Rattle.kernel_ast.specs.KernelParts.{KernelParts}
use Rattle.kernel_ast.specs.Labels.{labels_of}
use Rattle.kernel_ast.specs.Meaning.{outputs}
use Rattle.plan_report.specs.OutputsText.{outputs_text}
use Rattle.command_words.specs.declared.commands.Command.TheVariants.{Run}
use Rattle.command_answers.specs.declared.status.Status.{Status}
use Rattle.command_answers.specs.declared.status.Status.TheVariants.{Done, Kernel, Values}
use Rattle.command_answers.specs.Accepted.{IsAccepted}
use Rattle.pebble_cli.specs.Answers.{Answers}
use Rattle.command_answers.specs.Refusals.{IsFaulty}
use Rattle.command_answers.specs.RunAnswers.{IsValued, IsWrongValues, IsValuesFile, IsNoValuesFile}
use Rattle.desk_io.specs.Known.{ToldFile}
use Rattle.command_answers.specs.ValuesFiles.{values_fault_text}

-- The answers of `run`: a kernel's fault, the outputs on the values of the file, or that it holds none.
abbrev pub RunStatuses : Type 0
RunStatuses = (input : List ℕ) (file : ToldFile) (status : Status) (printed : List ℕ) (table : Option (List ℕ))
    → Answers (Some Run) input file status printed table
    → ((status ≡ Kernel) × IsFaulty input status printed table) ⊎ (((status ≡ Done) × IsValued input file status printed table) ⊎ ((status ≡ Values) × IsWrongValues input file status printed table))

-- Something holds of each answer of `run` to an accepted kernel and a file with these bytes.
abbrev pub OfRuns : (KernelParts → List ℕ → Status → List ℕ → Type 0) → Type 0
OfRuns P = (input bytes : List ℕ) (status : Status) (printed : List ℕ) (table : Option (List ℕ)) (kernel : KernelParts) (graph : GraphParts)
    → Answers (Some Run) input (Some (Some bytes)) status printed table → IsAccepted input kernel graph → P kernel bytes status printed

-- It is Done where the file holds values of the kernel, whose outputs on them are printed, and Values where it holds none.
abbrev pub DoneWhereValues : Type 0
DoneWhereValues = OfRuns (λ kernel bytes status printed. (values : List ℤ) → IsValuesFile kernel bytes values
    → (status ≡ Done) × (printed ≡ outputs_text (labels_of Output kernel.decls) (outputs kernel values)))

abbrev pub ValuesWhereNone : Type 0
ValuesWhereNone = OfRuns (λ kernel bytes status printed. IsNoValuesFile kernel bytes → (status ≡ Values) × (printed ≡ values_fault_text))
