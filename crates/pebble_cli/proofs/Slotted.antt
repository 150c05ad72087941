-- The answers of a command that plays on the kernel in the input with a number of slots: its refusals, or its own.
use Rattle.std.proofs.Common.{◌≡◌, ◌<◌, ℕ, List, Option, Some, inl, inr, refl, subst}
use Rattle.comp_graph.specs.Dags.{degree}
use Rattle.comp_graph.specs.Graphs.{GraphParts, dag_of}
use Rattle.kernel_ast.specs.KernelParts.{KernelParts}
use Rattle.command_words.specs.declared.commands.Command.{Command}
use Rattle.command_words.specs.declared.commands.Subject.TheVariants.{InputKernel}
use Rattle.command_words.specs.Commands.{subject, slots_of}
use Rattle.command_answers.specs.declared.status.Status.{Status}
use Rattle.command_answers.specs.Accepted.{IsAccepted}
use Rattle.command_answers.specs.Refusals.{IsFaulty, IsTooSmall}
use Rattle.desk_io.specs.Known.{ToldFile}
use Rattle.pebble_cli.specs.AnswerLaws.{RefusedOr}
use Rattle.pebble_cli.specs.Answers.{Answers, OwnAnswers}
use Rattle.pebble_cli.proofs.Admitting.{admits, text_is_input}
use Rattle.pebble_cli.proofs.AnswerLaws.{Kinds, faulty, not_code, small, last, kind_of, to_own}

-- each answer is a refusal or one of its own
pub refused_or : {Own : Type 0} (asked : Command) (slots : ℕ) (input : List ℕ) (file : ToldFile) (status : Status) (printed : List ℕ) (table : Option (List ℕ))
    → subject asked ≡ InputKernel → slots_of asked ≡ Some slots → Answers (Some asked) input file status printed table → (OwnAnswers asked input file status printed table → Own)
    → RefusedOr input slots status printed table Own
refused_or {Own} asked slots input file status printed table works has h own = by_kind (kind_of asked refl h)
  where
    by_kind : Kinds asked input file status printed table → RefusedOr input slots status printed table Own
    by_kind (faulty text is k) = inl (k.ends, subst (λ t. IsFaulty t status printed table) (text_is_input asked input text works is) k)
    by_kind (not_code is k) = absurd (cc)
    by_kind (small text count is counted k) =
        let same : count ≡ slots = cc in
        inr (inl (k.ends, subst (λ t. IsTooSmall slots t status printed table) (text_is_input asked input text works is) (subst (λ n. IsTooSmall n text status printed table) same k)))
    by_kind (last k) = inr (inr (own k))

-- to an accepted kernel with enough slots it is one of its own
pub own_answer : (asked : Command) (slots : ℕ) (input : List ℕ) (file : ToldFile) (status : Status) (printed : List ℕ) (table : Option (List ℕ)) (kernel : KernelParts) (graph : GraphParts)
    → subject asked ≡ InputKernel → slots_of asked ≡ Some slots → Answers (Some asked) input file status printed table → IsAccepted input kernel graph → degree (dag_of graph) < slots
    → OwnAnswers asked input file status printed table
own_answer asked slots input file status printed table kernel graph works has h accepted room =
    to_own asked input file status printed table (admits asked slots input kernel graph works has accepted room) (kind_of asked refl h)
