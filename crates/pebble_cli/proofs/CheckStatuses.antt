-- The laws of the answers of `check`: where its statuses stand, and that what `plan` wrote is accepted.
use Rattle.std.proofs.Common.{◌≡◌, ◌⊎◌, ℕ, ◌<◌, ◌≤◌, List, length, Option, Some, inl, inr, refl, ap, ◌∙◌, subst, arith}
use Rattle.comp_graph.specs.declared.costs.Weights.{Weights}
use Rattle.comp_graph.specs.Dags.{degree}
use Rattle.comp_graph.specs.Graphs.{GraphParts, dag_of}
use Rattle.kernel_ast.specs.KernelParts.{KernelParts}
use Rattle.potential_cert.specs.GameTables.{IsTableOf}
use Rattle.potential_cert.specs.Table.{TableParts}
use Rattle.potential_cert.specs.TableBytes.{IsSpelling}
use Rattle.potential_cert.proofs.Readable.{length_table}
use Rattle.command_words.specs.declared.commands.Checking.{Checking}
use Rattle.command_words.specs.declared.commands.Command.TheVariants.{Check}
use Rattle.command_answers.specs.declared.status.Status.{Status}
use Rattle.command_answers.specs.declared.status.Status.TheVariants.{Done, Refused, Kernel, TooSmall}
use Rattle.command_answers.specs.Accepted.{IsAccepted}
use Rattle.pebble_cli.specs.Answers.{Answers}
use Rattle.command_answers.specs.CheckAnswers.{Checks, IsCertificate, IsCertified, IsRefused, IsRefusedFile, accepted_text, refused_text}
use Rattle.pebble_cli.specs.CheckLaws.{CheckStatuses, DoneWhereCertified, RefusedWhereNot, PlansAreAccepted}
use Rattle.command_answers.specs.PlayedGames.{played_on}
use Rattle.command_answers.specs.Refusals.{IsFaulty, IsTooSmall}
use Rattle.desk_io.specs.Known.{ToldFile}
use Rattle.pebble_cli.proofs.AnswerLaws.{Kinds, faulty, not_code, small, last, kind_of, to_own}
use Rattle.command_answers.proofs.OneChecks as one_file
use Rattle.pebble_cli.proofs.CheckKept as to_check
use Rattle.pebble_cli.proofs.CommandLaws.{the_input, with_slots}

pub check_statuses : CheckStatuses
check_statuses asked input file status printed table h = by_kind (kind_of (Check asked) refl h)
  where
    by_kind : Kinds (Check asked) input file status printed table
        → ((status ≡ Kernel) × IsFaulty input status printed table) ⊎ (((status ≡ TooSmall) × IsTooSmall asked.slots input status printed table)
        ⊎ (((status ≡ Done) × IsCertified asked input file status printed table) ⊎ ((status ≡ Refused) × IsRefusedFile asked input file status printed table)))
    by_kind (faulty text is k) = inl (k.ends, the_input is k)
    by_kind (not_code is k) = absurd (cc)
    by_kind (small text slots is has k) = inr (inl (k.ends, with_slots is has k))
    by_kind (last (inl k)) = inr (inr (inl (k.ends, k)))
    by_kind (last (inr k)) = inr (inr (inr (k.ends, k)))

-- the check of an accepted kernel with enough slots
checked : (asked : Checking) (input : List ℕ) (file : ToldFile) (status : Status) (printed : List ℕ) (table : Option (List ℕ)) (kernel : KernelParts) (graph : GraphParts)
    → Answers (Some (Check asked)) input file status printed table → IsAccepted input kernel graph → degree (dag_of graph) < asked.slots → Checks asked input file status printed table
checked asked input file status printed table kernel graph h accepted room =
    to_own (Check asked) input file status printed table (to_check.admits asked input kernel graph accepted room) (kind_of (Check asked) refl h)

pub done_where_certified : DoneWhereCertified
done_where_certified asked input bytes status printed table kernel graph h accepted room t is =
    by_kind (checked asked input (Some (Some bytes)) status printed table kernel graph h accepted room)
  where
    by_kind : Checks asked input (Some (Some bytes)) status printed table → (status ≡ Done) × (printed ≡ accepted_text t.bound)
    by_kind (inl k) =
        let here = one_file.moved (λ g bytes. IsCertificate g bytes t) asked input kernel k.kernel graph k.graph bytes k.bytes accepted k.accepted k.held is in
        let same = one_file.one_certificate (played_on k.graph asked.slots asked.weights) k.bytes k.certificate t k.certifies here in
        (k.ends, k.line ∙ ap (λ u. accepted_text u.bound) same)
    by_kind (inr k) =
        let here = one_file.moved (λ g bytes. IsCertificate g bytes t) asked input kernel k.kernel graph k.graph bytes k.bytes accepted k.accepted k.held is in
        one_file.certified_or_not (played_on k.graph asked.slots asked.weights) k.bytes t k.reason k.row here k.refused

pub refused_where_not : RefusedWhereNot
refused_where_not asked input bytes status printed table kernel graph h accepted room reason row is =
    by_kind (checked asked input (Some (Some bytes)) status printed table kernel graph h accepted room)
  where
    by_kind : Checks asked input (Some (Some bytes)) status printed table → (status ≡ Refused) × (printed ≡ refused_text reason row)
    by_kind (inl k) =
        let here = one_file.moved (λ g bytes. IsRefused g bytes reason row) asked input kernel k.kernel graph k.graph bytes k.bytes accepted k.accepted k.held is in
        one_file.certified_or_not (played_on k.graph asked.slots asked.weights) k.bytes k.certificate reason row k.certifies here
    by_kind (inr k) =
        let here = one_file.moved (λ g bytes. IsRefused g bytes reason row) asked input kernel k.kernel graph k.graph bytes k.bytes accepted k.accepted k.held is in
        let same = one_file.one_refusal (played_on k.graph asked.slots asked.weights) k.bytes k.reason reason k.row row k.refused here in
        (k.ends, k.line ∙ ap (λ r. refused_text r k.row) same.0 ∙ ap (refused_text reason) same.1)

-- ---- what `plan` wrote

-- the spelling of a table of the game is a table file of it, if its rows are few
written_table : (graph : GraphParts) (slots : ℕ) (weights : Weights) (bytes : List ℕ) (t : TableParts) → IsSpelling bytes t → IsTableOf (played_on graph slots weights) t → length t.rows ≤ 150000
    → IsCertificate (played_on graph slots weights) bytes t
written_table graph slots weights bytes t spelled of_game few = record {
  file = record { short = let long = length_table bytes t spelled in omega arith; spelled = spelled };
  of_game = of_game;
}

pub plans_are_accepted : PlansAreAccepted
plans_are_accepted asked input verdict report bytes limits plan status printed table h =
    let t = plan.table_parts in
    let same : plan.bytes ≡ bytes = (let written = plan.written in cc) in
    let few : length t.rows ≤ 150000 = (let expanded = plan.answer.shown.expanded in let most = plan.answer.shown.few in let budget = limits.2 in omega (arith, expanded, most, budget)) in
    let is = written_table plan.graph asked.slots asked.weights bytes t (subst (λ x. IsSpelling x t) same plan.spelled) plan.answer.shown.tabled few in
    let done = done_where_certified (record { slots = asked.slots; weights = asked.weights }) input bytes status printed table plan.kernel plan.graph h plan.accepted plan.room t is in
    (done.0, done.1 ∙ ap accepted_text plan.answer.shown.bound)
