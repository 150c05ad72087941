-- What the faults of a run come from, and what a verdict is of.
use Rattle.std.proofs.Common.{◌≡◌, ◌≢◌, ◌⊎◌, ℕ, List, Option, None, Some, inl, inr, sym, ◌∙◌, subst}
use Rattle.desk_io.specs.declared.desk.Kind.{Kind}
use Rattle.desk_io.specs.declared.desk.Kind.TheVariants.{TakeInput, TakeFile}
use Rattle.desk_io.specs.Counts.{Rose}
use Rattle.desk_io.specs.Known.{ToldFile, Tells}
use Rattle.command_words.specs.declared.commands.Checking.{Checking}
use Rattle.command_answers.specs.declared.status.Status.{Status}
use Rattle.command_answers.specs.declared.status.Status.TheVariants.{Optimal, Kernel, TooSmall, Open}
use Rattle.improve_answers.specs.declared.commands.ImproveCommand.{ImproveCommand}
use Rattle.improve_answers.specs.declared.commands.ImproveCommand.TheVariants.{Improve, Confirm}
use Rattle.improve_answers.specs.declared.commands.Improving.{Improving}
use Rattle.improve_answers.specs.Improved.{IsImproved}
use Rattle.improve_cli.specs.Answers.{Answers, IsAdmitted}
use Rattle.improve_cli.specs.Faults.{ReadCause, of_input, of_file}
use Rattle.improve_cli.proofs.AnswerLaws.{Kinds, faulty, small, own, kind_of}

-- after a read fault a count has risen
pub cause_rose : {command : Option ImproveCommand} {input : Option (List ℕ)} {before now : Kind → ℕ} → ReadCause command input before now → (kind : Kind) × Rose (before kind) (now kind)
cause_rose (of_input asked is rose same) = (TakeInput, rose)
cause_rose (of_file asked text is told admitted rose same) = (TakeFile, rose)

-- words that spell no command read nothing
pub no_cause : {X : Type 0} {command : Option ImproveCommand} {input : Option (List ℕ)} {before now : Kind → ℕ} → command ≡ None → ReadCause command input before now → X
no_cause {command = None} is (of_input asked other rose same) = absurd (cc)
no_cause {command = None} is (of_file asked text other told admitted rose same) = absurd (cc)
no_cause {command = Some asked} is cause = absurd (cc)

-- a take of the file that failed once the input was read
pub file_fault : (command : ImproveCommand) (asked : Checking) (known : Option (List ℕ)) (text : List ℕ) (before mid now : Kind → ℕ) → Tells known text
    → mid TakeFile ≡ before TakeFile → mid TakeInput ≡ before TakeInput → now TakeInput ≡ mid TakeInput
    → command ≡ Confirm asked → IsAdmitted command text → Rose (mid TakeFile) (now TakeFile) → ReadCause (Some command) known before now
file_fault command asked known text before mid now told same early late is admitted rose =
    subst (λ k. ReadCause (Some k) known before now) (sym is)
    (of_file asked text (let confirm : Some (Confirm asked) ≡ Some (Confirm asked) = cc in confirm) told (subst (λ k. IsAdmitted k text) is admitted) (subst (λ n. Rose n (now TakeFile)) same rose) (late ∙ early))

-- a verdict of `improve` is that of a plan, and its table is written
pub verdict_of_plan : (command : Option ImproveCommand) (asked : Improving) (input : List ℕ) (file : ToldFile) (status : Status) (printed : List ℕ) (table : Option (List ℕ))
    → command ≡ Some (Improve asked) → Answers command input file status printed table → (status ≡ Optimal) ⊎ (status ≡ Open)
    → (bytes : List ℕ) × IsImproved asked input status printed (Some bytes) × (table ≡ Some bytes)
verdict_of_plan command asked input file status printed table is h verdict = by_kind (kind_of (Improve asked) is h)
  where
    Verdict : Type 0
    Verdict = (bytes : List ℕ) × IsImproved asked input status printed (Some bytes) × (table ≡ Some bytes)

    neither : (other : Status) → status ≡ other → other ≢ Optimal → other ≢ Open → (status ≡ Optimal) ⊎ (status ≡ Open) → Verdict
    neither other is first second (inl e) = absurd (first (sym is ∙ e))
    neither other is first second (inr e) = absurd (second (sym is ∙ e))

    by_kind : Kinds (Improve asked) input file status printed table → Verdict
    by_kind (faulty k) = neither Kernel k.ends (λ e. cc) (λ e. cc) verdict
    by_kind (small k) = neither TooSmall k.ends (λ e. cc) (λ e. cc) verdict
    by_kind (own k) = (_, subst (λ t. IsImproved asked input status printed t) k.written k, k.written)
