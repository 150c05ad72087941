-- What the faults of a run come from, and what a verdict is of.
use Rattle.std.proofs.Common.{◌≡◌, ◌≢◌, ◌⊎◌, ℕ, List, Option, None, Some, inl, inr, sym, ◌∙◌, subst}
use Rattle.desk_io.specs.declared.desk.Kind.{Kind}
use Rattle.desk_io.specs.declared.desk.Kind.TheVariants.{TakeInput, TakeFile}
use Rattle.desk_io.specs.Counts.{Rose}
use Rattle.desk_io.specs.Known.{ToldFile, TookAtMost}
use Rattle.command_words.specs.declared.commands.Command.{Command}
use Rattle.command_words.specs.declared.commands.Command.TheVariants.{Plan}
use Rattle.command_words.specs.declared.commands.Planning.{Planning}
use Rattle.command_words.specs.declared.commands.Subject.{Subject}
use Rattle.command_words.specs.Commands.{subject}
use Rattle.command_answers.specs.declared.status.Status.{Status}
use Rattle.command_answers.specs.declared.status.Status.TheVariants.{Optimal, Kernel, TooSmall, Open}
use Rattle.command_answers.specs.PlanAnswers.{IsPlanned}
use Rattle.pebble_cli.specs.Answers.{Answers}
use Rattle.pebble_cli.specs.Faults.{ReadCause, of_input, of_file, subject_limit, input_limit}
use Rattle.pebble_cli.proofs.AnswerLaws.{Kinds, faulty, not_code, small, last, kind_of}

-- ---- takes

-- behind a read fault a count rose
pub cause_rose : {command : Option Command} {input : Option (List ℕ)} {before now : Kind → ℕ} → ReadCause command input before now → (kind : Kind) × Rose (before kind) (now kind)
cause_rose (of_input reads rose same) = (TakeInput, rose)
cause_rose (of_file asked is reads admitted rose same) = (TakeFile, rose)

-- words that spell no command read nothing
pub no_cause : {X : Type 0} {command : Option Command} {input : Option (List ℕ)} {before now : Kind → ℕ} → command ≡ None → ReadCause command input before now → X
no_cause {command = None} is (of_input reads rose same) = absurd (cc)
no_cause {command = None} is (of_file asked other reads admitted rose same) = absurd (cc)
no_cause {command = Some asked} is cause = absurd (cc)

-- the limit of a command's subject is the command's
pub subject_within : (command : Command) (known now : Option (List ℕ)) (is : Subject) → subject command ≡ is → TookAtMost known now (subject_limit is)
    → TookAtMost known now (input_limit (Some command))
subject_within command known now is same took = subst (λ s. TookAtMost known now (subject_limit s)) (sym same) took

-- ---- the plan

-- a verdict of `plan` is that of a plan, and its table is written
pub verdict_of_plan : (command : Option Command) (asked : Planning) (input : List ℕ) (file : ToldFile) (status : Status) (printed : List ℕ) (table : Option (List ℕ))
    → command ≡ Some (Plan asked) → Answers command input file status printed table → (status ≡ Optimal) ⊎ (status ≡ Open)
    → (bytes : List ℕ) × IsPlanned asked input status printed (Some bytes) × (table ≡ Some bytes)
verdict_of_plan command asked input file status printed table is h verdict = by_kind (kind_of (Plan asked) is h)
  where
    Verdict : Type 0
    Verdict = (bytes : List ℕ) × IsPlanned asked input status printed (Some bytes) × (table ≡ Some bytes)

    neither : (other : Status) → status ≡ other → other ≢ Optimal → other ≢ Open → (status ≡ Optimal) ⊎ (status ≡ Open) → Verdict
    neither other is first second (inl e) = absurd (first (sym is ∙ e))
    neither other is first second (inr e) = absurd (second (sym is ∙ e))

    by_kind : Kinds (Plan asked) input file status printed table → Verdict
    by_kind (faulty text e k) = neither Kernel k.ends (λ e. cc) (λ e. cc) verdict
    by_kind (not_code e k) = absurd (cc)
    by_kind (small text slots e has k) = neither TooSmall k.ends (λ e. cc) (λ e. cc) verdict
    by_kind (last k) = (_, subst (λ t. IsPlanned asked input status printed t) k.written k, k.written)
