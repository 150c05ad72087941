-- Where each status of `cover` and `covercheck` stands, over the definitions alone, and that what `cover` wrote is accepted.
use Rattle.std.specs.Prelude.{◌≡◌, ◌⊎◌, ℕ, ◌*◌, ◌-◌, ◌^◌, ◌≤◌, ◌<◌, List, length, Option, Some}
use Rattle.comp_graph.specs.Dags.{degree}
use Rattle.comp_graph.specs.Games.{PebbleGame, unit_weights}
use Rattle.comp_graph.specs.Graphs.{GraphParts, dag_of}
use Rattle.cover_cert.specs.CoverTable.{CoverTableParts}
use Rattle.kernel_ast.specs.KernelParts.{KernelParts}
use Rattle.command_words.specs.declared.commands.Command.TheVariants.{Cover, CoverCheck}
use Rattle.command_words.specs.declared.commands.Covering.{Covering}
use Rattle.command_words.specs.Words.{IsInLimits}
use Rattle.command_answers.specs.declared.status.Status.{Status}
use Rattle.command_answers.specs.declared.status.Status.TheVariants.{Optimal, Open, Done, Refused}
use Rattle.command_answers.specs.Accepted.{IsAccepted}
use Rattle.command_answers.specs.CheckAnswers.{accepted_text, refused_text}
use Rattle.command_answers.specs.CoverAnswers.{IsCovered}
use Rattle.command_answers.specs.CoverCheckAnswers.{IsCoverCertificate, IsCoverCertified, IsCoverRefused, IsCoverRefusedFile}
use Rattle.command_answers.specs.PlayedGames.{played_on}
use Rattle.desk_io.specs.Known.{ToldFile}
use Rattle.pebble_cli.specs.AnswerLaws.{RefusedOr}
use Rattle.pebble_cli.specs.Answers.{Answers}

-- ---- cover

-- The answers of `cover`: a kernel's fault, too few slots, or a plan with its verdict and a covered table.
abbrev pub CoverStatuses : Type 0
CoverStatuses = (asked : Covering) (input : List ℕ) (file : ToldFile) (status : Status) (printed : List ℕ) (table : Option (List ℕ))
    → Answers (Some (Cover asked)) input file status printed table
    → RefusedOr input asked.slots status printed table (((status ≡ Optimal) ⊎ (status ≡ Open)) × IsCovered asked input status printed table)

-- Something holds of each answer of `cover` to an accepted kernel with more slots than the degree of its graph.
abbrev pub OfCovers : (Covering → GraphParts → List ℕ → Status → List ℕ → Option (List ℕ) → Type 0) → Type 0
OfCovers P = (asked : Covering) (input : List ℕ) (file : ToldFile) (status : Status) (printed : List ℕ) (table : Option (List ℕ))
    (kernel : KernelParts) (graph : GraphParts) → Answers (Some (Cover asked)) input file status printed table → IsAccepted input kernel graph
    → degree (dag_of graph) < asked.slots → P asked graph input status printed table

-- There it is Optimal or Open.
abbrev pub CoversAreAnswered : Type 0
CoversAreAnswered = OfCovers (λ asked graph input status printed table. ((status ≡ Optimal) ⊎ (status ≡ Open)) × IsCovered asked input status printed table)

-- Open never comes where the budget is at least 2 to the power 2n - i, with n vertices and i inputs.
abbrev pub CoversAreOptimalWhereEnough : Type 0
CoversAreOptimalWhereEnough = OfCovers (λ asked graph input status printed table. 2 ^ (2 * length graph.nodes - length graph.names) ≤ asked.budget → status ≡ Optimal)

-- ---- covercheck

-- The answers of `covercheck`: a kernel's fault, too few slots, the bound that the file proves, or why it proves none.
abbrev pub CoverCheckStatuses : Type 0
CoverCheckStatuses = (slots : ℕ) (input : List ℕ) (file : ToldFile) (status : Status) (printed : List ℕ) (table : Option (List ℕ))
    → Answers (Some (CoverCheck slots)) input file status printed table
    → RefusedOr input slots status printed table
    (((status ≡ Done) × IsCoverCertified slots input file status printed table) ⊎ ((status ≡ Refused) × IsCoverRefusedFile slots input file status printed table))

-- Something holds of each answer of `covercheck` to an accepted kernel with more slots than the degree of its graph, and a file with these bytes.
abbrev pub OfCoverChecks : (PebbleGame → List ℕ → Status → List ℕ → Type 0) → Type 0
OfCoverChecks P = (slots : ℕ) (input bytes : List ℕ) (status : Status) (printed : List ℕ) (table : Option (List ℕ)) (kernel : KernelParts) (graph : GraphParts)
    → Answers (Some (CoverCheck slots)) input (Some (Some bytes)) status printed table → IsAccepted input kernel graph
    → degree (dag_of graph) < slots → P (played_on graph slots unit_weights) bytes status printed

-- It is Done with the bound where the file is a covered table file of the game, and Refused with the reason and the row where it is refused.
abbrev pub DoneWhereCovered : Type 0
DoneWhereCovered = OfCoverChecks (λ g bytes status printed. (t : CoverTableParts) → IsCoverCertificate g bytes t → (status ≡ Done) × (printed ≡ accepted_text t.bound))

abbrev pub RefusedWhereNotCovered : Type 0
RefusedWhereNotCovered = OfCoverChecks (λ g bytes status printed. (reason row : ℕ) → IsCoverRefused g bytes reason row → (status ≡ Refused) × (printed ≡ refused_text reason row))

-- A file that `cover` wrote is accepted with the same kernel and slots, and with the same bound, and by no other answer.
abbrev pub CoversAreAccepted : Type 0
CoversAreAccepted = (asked : Covering) (input : List ℕ) (verdict : Status) (report bytes : List ℕ) → IsInLimits (Cover asked)
    → (cover : IsCovered asked input verdict report (Some bytes)) → (status : Status) (printed : List ℕ) (table : Option (List ℕ))
    → Answers (Some (CoverCheck asked.slots)) input (Some (Some bytes)) status printed table
    → (status ≡ Done) × (printed ≡ accepted_text cover.plan.numbers.bound)
