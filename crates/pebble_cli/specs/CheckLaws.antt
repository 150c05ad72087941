-- Where each status of `check` stands, over the definitions alone, and that what `plan` wrote is accepted.
use Rattle.std.specs.Prelude.{◌≡◌, ◌⊎◌, ℕ, ◌<◌, List, Option, Some}
use Rattle.comp_graph.specs.Dags.{IsDag, degree}
use Rattle.comp_graph.specs.Games.{PebbleGame}
use Rattle.comp_graph.specs.Graphs.{GraphParts, dag_of}
use Rattle.kernel_ast.specs.KernelParts.{KernelParts}
use Rattle.potential_cert.specs.Table.{TableParts}
use Rattle.command_words.specs.declared.commands.Checking.{Checking}
use Rattle.command_words.specs.declared.commands.Command.TheVariants.{Check, Plan}
use Rattle.command_words.specs.declared.commands.Planning.{Planning}
use Rattle.command_answers.specs.declared.status.Status.{Status}
use Rattle.command_answers.specs.declared.status.Status.TheVariants.{Done, Refused, Kernel, TooSmall}
use Rattle.command_answers.specs.Accepted.{IsAccepted}
use Rattle.pebble_cli.specs.Answers.{Answers}
use Rattle.command_answers.specs.CheckAnswers.{IsCertificate, IsCertified, IsRefused, IsRefusedFile, accepted_text, refused_text}
use Rattle.command_answers.specs.PlanAnswers.{IsPlanned}
use Rattle.command_answers.specs.PlayedGames.{played_on}
use Rattle.command_answers.specs.Refusals.{IsFaulty, IsTooSmall}
use Rattle.desk_io.specs.Known.{ToldFile}
use Rattle.command_words.specs.Words.{IsInLimits}

-- The answers of `check`: a kernel's fault, too few slots, the bound that the file proves, or why it proves none.
abbrev pub CheckStatuses : Type 0
CheckStatuses = (asked : Checking) (input : List ℕ) (file : ToldFile) (status : Status) (printed : List ℕ) (table : Option (List ℕ))
    → Answers (Some (Check asked)) input file status printed table
    → ((status ≡ Kernel) × IsFaulty input status printed table) ⊎ (((status ≡ TooSmall) × IsTooSmall asked.slots input status printed table)
    ⊎ (((status ≡ Done) × IsCertified asked input file status printed table) ⊎ ((status ≡ Refused) × IsRefusedFile asked input file status printed table)))

-- Something holds of each answer of `check` to an accepted kernel with more slots than the degree of its graph, and a file with these bytes.
abbrev pub OfChecks : (PebbleGame → List ℕ → Status → List ℕ → Type 0) → Type 0
OfChecks P = (asked : Checking) (input bytes : List ℕ) (status : Status) (printed : List ℕ) (table : Option (List ℕ)) (kernel : KernelParts) (graph : GraphParts)
    → Answers (Some (Check asked)) input (Some (Some bytes)) status printed table → IsAccepted input kernel graph
    → degree (dag_of graph) < asked.slots → P (played_on graph asked.slots asked.weights) bytes status printed

-- It is Done with the bound where the file is a table file of the game, and Refused with the reason and the row where it is refused.
abbrev pub DoneWhereCertified : Type 0
DoneWhereCertified = OfChecks (λ g bytes status printed. (t : TableParts) → IsCertificate g bytes t → (status ≡ Done) × (printed ≡ accepted_text t.bound))

abbrev pub RefusedWhereNot : Type 0
RefusedWhereNot = OfChecks (λ g bytes status printed. (reason row : ℕ) → IsRefused g bytes reason row → (status ≡ Refused) × (printed ≡ refused_text reason row))

-- Each file does one of the two.
abbrev pub CertifiedOrRefused : Type 0
CertifiedOrRefused = (g : PebbleGame) → IsDag g.dag → (bytes : List ℕ)
    → ((t : TableParts) × IsCertificate g bytes t) ⊎ ((reason : ℕ) × (row : ℕ) × IsRefused g bytes reason row)

-- A file that `plan` wrote is accepted with the same kernel, slots and weights, and with the same bound, and by no other answer.
abbrev pub PlansAreAccepted : Type 0
PlansAreAccepted = (asked : Planning) (input : List ℕ) (verdict : Status) (report bytes : List ℕ) → IsInLimits (Plan asked)
    → (plan : IsPlanned asked input verdict report (Some bytes)) → (status : Status) (printed : List ℕ) (table : Option (List ℕ))
    → Answers (Some (Check (record { slots = asked.slots; weights = asked.weights }))) input (Some (Some bytes)) status printed table
    → (status ≡ Done) × (printed ≡ accepted_text plan.plan.numbers.bound)
