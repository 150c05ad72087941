-- The laws of the answers of `cover` and `covercheck`: where their statuses stand, and that what `cover` wrote is accepted.
use Rattle.std.proofs.Common.{◌≡◌, ℕ, ◌*◌, ◌-◌, ◌≤◌, ◌<◌, List, length, Option, Some, None, inl, inr, refl, sym, ap, ◌∙◌, subst}
use Rattle.std.specs.Prelude.{◌^◌}
use Rattle.comp_graph.specs.Dags.{degree}
use Rattle.comp_graph.specs.Graphs.{GraphParts, dag_of}
use Rattle.kernel_ast.specs.KernelParts.{KernelParts}
use Rattle.command_words.specs.declared.commands.Command.TheVariants.{Cover, CoverCheck}
use Rattle.command_answers.specs.declared.status.Status.{Status}
use Rattle.command_answers.specs.declared.status.Status.TheVariants.{Done, Refused}
use Rattle.command_answers.specs.Accepted.{IsAccepted}
use Rattle.command_answers.specs.CheckAnswers.{accepted_text, refused_text}
use Rattle.command_answers.specs.CoverAnswers.{IsCovered}
use Rattle.command_answers.specs.CoverCheckAnswers.{CoverChecks, IsCoverRefusedFile}
use Rattle.desk_io.specs.Known.{ToldFile}
use Rattle.command_answers.proofs.Accepting.{accepted_graph, accepted_once}
use Rattle.command_answers.proofs.CoverFiles.{cover_check_is_one, is_cover_certified}
use Rattle.command_answers.proofs.OneCovers.{covered_is_certificate, covered_is_optimal}
use Rattle.pebble_cli.specs.Answers.{Answers}
use Rattle.pebble_cli.specs.CoverLaws.{CoverStatuses, CoversAreAnswered, CoversAreOptimalWhereEnough, CoverCheckStatuses, DoneWhereCovered, RefusedWhereNotCovered, CoversAreAccepted}
use Rattle.pebble_cli.proofs.CommandLaws.{verdict_is, inputs_counted}
use Rattle.pebble_cli.proofs.Slotted.{refused_or, own_answer}

-- ---- cover

pub cover_statuses : CoverStatuses
cover_statuses asked input file status printed table h =
    refused_or (Cover asked) asked.slots input file status printed table refl refl h (λ k. (verdict_is k.plan.numbers.optimal k.ends, k))

pub covers_are_answered : CoversAreAnswered
covers_are_answered asked input file status printed table kernel graph h accepted room =
    let k = own_answer (Cover asked) asked.slots input file status printed table kernel graph refl refl h accepted room in
    (verdict_is k.plan.numbers.optimal k.ends, k)

pub covers_are_optimal_where_enough : CoversAreOptimalWhereEnough
covers_are_optimal_where_enough asked input file status printed table kernel graph h accepted room enough =
    let k : IsCovered asked input status printed table = own_answer (Cover asked) asked.slots input file status printed table kernel graph refl refl h accepted room in
    let graphs : graph ≡ k.graph = (accepted_once input kernel k.kernel graph k.graph accepted k.accepted).1 in
    let here : 2 ^ (2 * length k.graph.nodes - length k.graph.names) ≤ asked.budget = subst (λ (g : GraphParts). 2 ^ (2 * length g.nodes - length g.names) ≤ asked.budget) graphs enough in
    covered_is_optimal asked input status printed table k
    (subst (λ i. 2 ^ (2 * length k.graph.nodes - i) ≤ asked.budget) (sym (inputs_counted k.graph (accepted_graph k.accepted))) here)

-- ---- covercheck

pub cover_check_statuses : CoverCheckStatuses
cover_check_statuses slots input file status printed table h = refused_or (CoverCheck slots) slots input file status printed table refl refl h (λ k. elim k [
  | inl certified ↦ inl (certified.ends, certified)
  | inr refused ↦ inr (refused.ends, refused)
])

checked : (slots : ℕ) (input : List ℕ) (file : ToldFile) (status : Status) (printed : List ℕ) (table : Option (List ℕ)) (kernel : KernelParts) (graph : GraphParts)
    → Answers (Some (CoverCheck slots)) input file status printed table → IsAccepted input kernel graph → degree (dag_of graph) < slots → CoverChecks slots input file status printed table
checked slots input file status printed table kernel graph h accepted room =
    own_answer (CoverCheck slots) slots input file status printed table kernel graph refl refl h accepted room

pub done_where_covered : DoneWhereCovered
done_where_covered slots input bytes status printed table kernel graph h accepted room t is =
    let held = Some (Some bytes) in
    let certified = is_cover_certified slots input held kernel graph bytes t Done (accepted_text t.bound) None refl refl refl is room accepted refl in
    let one = cover_check_is_one slots input held (Some bytes) status Done printed (accepted_text t.bound) table None refl
    (checked slots input held status printed table kernel graph h accepted room) (inl certified) in
    (one.0, one.1)

pub refused_where_not_covered : RefusedWhereNotCovered
refused_where_not_covered slots input bytes status printed table kernel graph h accepted room reason row is =
    let held = Some (Some bytes) in
    let refused : IsCoverRefusedFile slots input held Refused (refused_text reason row) None = record {
      kernel = kernel;
      graph = graph;
      accepted = accepted;
      room = room;
      bytes = bytes;
      held = refl;
      reason = reason;
      row = row;
      refused = is;
      ends = refl;
      line = refl;
      none = refl;
    } in
    let one = cover_check_is_one slots input held (Some bytes) status Refused printed (refused_text reason row) table None refl
    (checked slots input held status printed table kernel graph h accepted room) (inr refused) in
    (one.0, one.1)

-- ---- what `cover` wrote

pub covers_are_accepted : CoversAreAccepted
covers_are_accepted asked input verdict report bytes limits cover status printed table h =
    let is = covered_is_certificate asked input verdict report bytes cover limits.1 limits.2 in
    let done = done_where_covered asked.slots input bytes status printed table cover.kernel cover.graph h cover.accepted cover.room cover.table_parts is in
    (done.0, done.1 ∙ ap accepted_text cover.shown.bound)
