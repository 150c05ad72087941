-- The laws of the answers of each command: where its statuses stand.
use Rattle.std.proofs.Common.{◌≡◌, ◌⊎◌, ℕ, zero, suc, ◌*◌, ◌-◌, ◌≤◌, ◌<◌, Bool, true, false, List, length, Option, None, Some, inl, inr, refl, sym, ap, ◌∙◌, subst, arith}
use Rattle.std.specs.Prelude.{◌^◌}
use Rattle.comp_graph.specs.Dags.{degree}
use Rattle.comp_graph.specs.Graphs.{GraphParts, IsGraph, dag_of}
use Rattle.comp_graph.specs.Vertices.{size, count_below}
use Rattle.comp_graph.proofs.GraphLaws.{IsDag-dag_of, inputs_of-first}
use Rattle.comp_graph.proofs.Sets.{size_set_below}
use Rattle.first_plan.specs.FirstPlan.{first_steps}
use Rattle.forced_bounds.proofs.Ends.{floor_of_finish}
use Rattle.potential_cert.specs.Table.{IsSupport}
use Rattle.search_laws.proofs.Count.{enough_budget_is_optimal}
use Rattle.kernel_ast.specs.declared.tree.DeclKind.TheVariants.{Output}
use Rattle.kernel_ast.specs.KernelParts.{KernelParts}
use Rattle.kernel_ast.specs.Labels.{labels_of}
use Rattle.kernel_ast.specs.Meaning.{outputs}
use Rattle.plan_report.specs.GraphText.{graph_text}
use Rattle.plan_report.specs.OutputsText.{outputs_text}
use Rattle.kernel_gen.specs.Laws.{IsTrial}
use Rattle.kernel_gen.specs.Trials.{trial_kernel}
use Rattle.kernel_gen.proofs.AcceptedTrials.{trials_accepted}
use Rattle.command_words.specs.declared.commands.Command.TheVariants.{Plan, Run, Graph, Trial}
use Rattle.command_words.specs.declared.commands.Planning.{Planning}
use Rattle.command_words.specs.declared.commands.TrialPlanning.{TrialPlanning}
use Rattle.command_answers.specs.declared.status.Status.{Status}
use Rattle.command_answers.specs.declared.status.Status.TheVariants.{Optimal, Open, Done, Kernel, TooSmall, Values}
use Rattle.command_answers.specs.Accepted.{IsAccepted, IsKernelFault}
use Rattle.pebble_cli.specs.Answers.{Answers, own_answer}
use Rattle.pebble_cli.specs.Faults.{of_file, of_input}
use Rattle.command_answers.specs.GraphAnswers.{IsDrawn}
use Rattle.pebble_cli.specs.GraphLaws.{GraphStatuses, DoneWhereAccepted}
use Rattle.command_answers.specs.PlanAnswers.{IsPlanned, plan_asked, rows_asked, search_asked, verdict_status}
use Rattle.pebble_cli.specs.PlanLaws.{PlanStatuses, PlansAreAnswered, PlansAreAsShown, OptimalWhereTight, OpenWhereLoose, OptimalWhereEnough}
use Rattle.command_answers.specs.PlayedGames.{played_for}
use Rattle.command_answers.specs.Refusals.{IsFaulty, IsTooSmall}
use Rattle.command_answers.specs.RunAnswers.{IsValued, IsWrongValues}
use Rattle.desk_io.specs.Known.{ToldFile}
use Rattle.command_answers.specs.ValuesFiles.{values_fault_text}
use Rattle.pebble_cli.specs.RunLaws.{RunStatuses, DoneWhereValues, ValuesWhereNone}
use Rattle.command_answers.specs.TrialAnswers.{IsTried}
use Rattle.pebble_cli.specs.TrialLaws.{TrialStatuses, DoneWhereRoom, TrialsAreAsShown, NoReadOfTrials}
use Rattle.command_answers.proofs.Accepting.{accepted_graph, accepted_once, no_fault_of_accepted}
use Rattle.pebble_cli.proofs.AnswerLaws.{Kinds, faulty, not_code, small, last, kind_of, to_own, one_answer}
use Rattle.command_answers.proofs.FoundPlans.{first_finishes, found_no_worse}
use Rattle.command_answers.proofs.OnePlans.{planned_is, tried_is}
use Rattle.pebble_cli.proofs.GraphKept as to_graph
use Rattle.pebble_cli.proofs.PlanKept as to_plan
use Rattle.pebble_cli.proofs.TrialKept as to_trial

-- ---- the refusals

-- a fault of the text is one of the input
pub the_input : {input text : List ℕ} {status : Status} {printed : List ℕ} {table : Option (List ℕ)} → Some input ≡ Some text → IsFaulty text status printed table
    → IsFaulty input status printed table
the_input {input} {text} {status} {printed} {table} is k = let same : text ≡ input = cc in subst (λ t. IsFaulty t status printed table) same k

-- the slots are those of the command, and the text is the one that it works on
pub with_slots : {input text : List ℕ} {asked slots : ℕ} {status : Status} {printed : List ℕ} {table : Option (List ℕ)} → Some input ≡ Some text → Some asked ≡ Some slots
    → IsTooSmall slots text status printed table → IsTooSmall asked input status printed table
with_slots {input} {text} {asked} {slots} {status} {printed} {table} is has k =
    let same : text ≡ input = cc in
    let count : slots ≡ asked = cc in
    subst (λ t. IsTooSmall asked t status printed table) same (subst (λ n. IsTooSmall n text status printed table) count k)

-- ---- plan

-- the two verdicts
pub verdict_is : {status : Status} (optimal : Bool) → status ≡ verdict_status optimal → (status ≡ Optimal) ⊎ (status ≡ Open)
verdict_is true e = inl e
verdict_is false e = inr e

pub plan_statuses : PlanStatuses
plan_statuses asked input file status printed table h = by_kind (kind_of (Plan asked) refl h)
  where
    by_kind : Kinds (Plan asked) input file status printed table
        → ((status ≡ Kernel) × IsFaulty input status printed table) ⊎ (((status ≡ TooSmall) × IsTooSmall asked.slots input status printed table)
        ⊎ (((status ≡ Optimal) ⊎ (status ≡ Open)) × IsPlanned asked input status printed table))
    by_kind (faulty text is k) = inl (k.ends, the_input is k)
    by_kind (not_code is k) = absurd (cc)
    by_kind (small text slots is has k) = inr (inl (k.ends, with_slots is has k))
    by_kind (last k) = inr (inr (verdict_is k.plan.numbers.optimal k.ends, k))

-- the plan of an accepted kernel with enough slots
planned : (asked : Planning) (input : List ℕ) (file : ToldFile) (status : Status) (printed : List ℕ) (table : Option (List ℕ)) (kernel : KernelParts) (graph : GraphParts)
    → Answers (Some (Plan asked)) input file status printed table → IsAccepted input kernel graph → degree (dag_of graph) < asked.slots → IsPlanned asked input status printed table
planned asked input file status printed table kernel graph h accepted room =
    to_own (Plan asked) input file status printed table (to_plan.admits asked input kernel graph accepted room) (kind_of (Plan asked) refl h)

pub plans_are_answered : PlansAreAnswered
plans_are_answered asked input file status printed table kernel graph h accepted room =
    let k = planned asked input file status printed table kernel graph h accepted room in
    verdict_is k.plan.numbers.optimal k.ends

pub plans_are_as_shown : PlansAreAsShown
plans_are_as_shown asked input file status printed table kernel graph h accepted room numbers t shown =
    planned_is asked input status printed table kernel graph numbers t (planned asked input file status printed table kernel graph h accepted room) accepted shown

pub optimal_where_tight : OptimalWhereTight
optimal_where_tight asked input file status printed table kernel graph h accepted room tight =
    let k = planned asked input file status printed table kernel graph h accepted room in
    let numbers = to_plan.planned_numbers asked input kernel graph status printed table accepted k in
    let bound = to_plan.one_bound asked graph k.plan.numbers.bound (plan_asked asked graph).total numbers.0 tight in
    k.ends ∙ ap verdict_status (k.answer.shown.is_optimal.1 (bound ∙ sym numbers.1))

pub open_where_loose : OpenWhereLoose
open_where_loose asked input file status printed table kernel graph h accepted room bound is loose =
    let k = planned asked input file status printed table kernel graph h accepted room in
    let numbers = to_plan.planned_numbers asked input kernel graph status printed table accepted k in
    let same = to_plan.one_bound asked graph k.plan.numbers.bound bound numbers.0 is in
    by_verdict k.plan.numbers.optimal (λ e. let equal = k.answer.shown.is_optimal.0 e in omega (arith, same, numbers.1, equal, loose)) k.ends
  where
    by_verdict : (optimal : Bool) → (optimal ≡ true → ⊥) → status ≡ verdict_status optimal → status ≡ Open
    by_verdict true not e = absurd (not refl)
    by_verdict false not e = e

-- the numbers below n are n
all_below : (n : ℕ) → count_below (λ v. true) n ≡ n
unfolding count_below
all_below zero = refl
all_below (suc n) = omega (arith, all_below n)

-- there are as many inputs as names
pub inputs_counted : (graph : GraphParts) → IsGraph graph → size (dag_of graph).inputs ≡ length graph.names
inputs_counted graph valid = ap size (sym (inputs_of-first graph valid)) ∙ size_set_below (λ v. true) (length graph.names) ∙ all_below (length graph.names)

pub optimal_where_enough : OptimalWhereEnough
optimal_where_enough asked input file status printed table kernel graph h accepted room enough =
    let k = planned asked input file status printed table kernel graph h accepted room in
    let valid = accepted_graph accepted in
    let numbers = to_plan.planned_numbers asked input kernel graph status printed table accepted k in
    let costs : (plan_asked asked graph).total ≡ (search_asked asked graph).cost = (found_no_worse asked graph valid room).costs in
    let support = subst (λ cost. IsSupport (played_for asked graph) (rows_asked asked graph) cost k.plan.numbers.bound) costs numbers.0 in
    let many = subst (λ i. 2 ^ (2 * length graph.nodes - i) ≤ asked.budget) (sym (inputs_counted graph valid)) enough in
    let bound = enough_budget_is_optimal floor_of_finish (played_for asked graph) (IsDag-dag_of graph valid) (first_steps (played_for asked graph)) (first_finishes asked graph valid room)
    asked.budget many k.plan.numbers.bound support in
    k.ends ∙ ap verdict_status (k.answer.shown.is_optimal.1 (bound ∙ sym costs ∙ sym numbers.1))

-- ---- run

pub run_statuses : RunStatuses
run_statuses input file status printed table h = by_kind (kind_of Run refl h)
  where
    by_kind : Kinds Run input file status printed table
        → ((status ≡ Kernel) × IsFaulty input status printed table) ⊎ (((status ≡ Done) × IsValued input file status printed table) ⊎ ((status ≡ Values) × IsWrongValues input file status printed table))
    by_kind (faulty text is k) = inl (k.ends, the_input is k)
    by_kind (not_code is k) = absurd (cc)
    by_kind (small text slots is has k) = absurd (cc)
    by_kind (last (inl k)) = inr (inl (k.ends, k))
    by_kind (last (inr k)) = inr (inr (k.ends, k))

-- the answer to values of the kernel, and to a file without values: all others are the same
pub done_where_values : DoneWhereValues
done_where_values input bytes status printed table kernel graph h accepted values given =
    let text = outputs_text (labels_of Output kernel.decls) (outputs kernel values) in
    let there : IsValued input (Some (Some bytes)) Done text None = record {
      kernel = kernel;
      graph = graph;
      accepted = accepted;
      bytes = bytes;
      held = refl;
      values = values;
      given = given;
      ends = refl;
      lines = refl;
      none = refl;
    } in
    let same = one_answer (Some Run) input (Some (Some bytes)) status printed table h Done text None (λ last reads. (Some bytes, refl)) (own_answer Run refl (inl there)) in
    (same.0, same.1)

pub values_where_none : ValuesWhereNone
values_where_none input bytes status printed table kernel graph h accepted none =
    let there : IsWrongValues input (Some (Some bytes)) Values values_fault_text None = record {
      kernel = kernel;
      graph = graph;
      accepted = accepted;
      bytes = bytes;
      held = refl;
      wrong = none;
      ends = refl;
      line = refl;
      none = refl;
    } in
    let same = one_answer (Some Run) input (Some (Some bytes)) status printed table h Values values_fault_text None (λ last reads. (Some bytes, refl)) (own_answer Run refl (inr there)) in
    (same.0, same.1)

-- ---- graph

pub graph_statuses : GraphStatuses
graph_statuses input file status printed table h = by_kind (kind_of Graph refl h)
  where
    by_kind : Kinds Graph input file status printed table → ((status ≡ Kernel) × IsFaulty input status printed table) ⊎ ((status ≡ Done) × IsDrawn input status printed table)
    by_kind (faulty text is k) = inl (k.ends, the_input is k)
    by_kind (not_code is k) = absurd (cc)
    by_kind (small text slots is has k) = absurd (cc)
    by_kind (last k) = inr (k.ends, k)

pub done_where_accepted : DoneWhereAccepted
done_where_accepted input file status printed table kernel graph h accepted =
    let k = to_own Graph input file status printed table (to_graph.admits input kernel graph accepted) (kind_of Graph refl h) in
    (k.ends, k.lines ∙ ap graph_text (accepted_once input k.kernel kernel k.graph graph k.accepted accepted).1)

-- ---- trial

pub trial_statuses : TrialStatuses
trial_statuses asked input file status printed table limits h = by_kind (kind_of (Trial asked) refl h)
  where
    no_fault : {X : Type 0} (text : List ℕ) (code at : ℕ) → Some (trial_kernel asked.statements) ≡ Some text → IsKernelFault text code at → X
    no_fault text code at e fault =
        let trial : IsTrial asked.statements = trials_accepted asked.statements limits.0.0 limits.0.1 in
        let same : trial_kernel asked.statements ≡ text = cc in
        absurd (no_fault_of_accepted text trial.kernel trial.graph code at (subst (λ t. IsAccepted t trial.kernel trial.graph) same trial.accepted) fault)

    by_kind : Kinds (Trial asked) input file status printed table
        → ((status ≡ TooSmall) × IsTooSmall asked.slots (trial_kernel asked.statements) status printed table) ⊎ ((status ≡ Done) × IsTried asked status printed table)
    by_kind (faulty text is k) = no_fault text k.code k.at is k.fault
    by_kind (not_code is k) = absurd (cc)
    by_kind (small text slots is has k) = inl (k.ends, with_slots is has k)
    by_kind (last k) = inr (k.ends, k)

-- the plan of a trial kernel with enough slots
tried : (asked : TrialPlanning) (input : List ℕ) (file : ToldFile) (status : Status) (printed : List ℕ) (table : Option (List ℕ)) (kernel : KernelParts) (graph : GraphParts)
    → Answers (Some (Trial asked)) input file status printed table → IsAccepted (trial_kernel asked.statements) kernel graph → degree (dag_of graph) < asked.slots
    → IsTried asked status printed table
tried asked input file status printed table kernel graph h accepted room =
    to_own (Trial asked) input file status printed table (to_trial.admits asked input kernel graph accepted room) (kind_of (Trial asked) refl h)

pub done_where_room : DoneWhereRoom
done_where_room asked input file status printed table limits h kernel graph accepted room =
    (tried asked input file status printed table kernel graph h accepted room).ends

pub trials_are_as_shown : TrialsAreAsShown
trials_are_as_shown asked input file status printed table limits h kernel graph accepted room numbers t shown =
    let same = tried_is asked status printed table kernel graph numbers t (tried asked input file status printed table kernel graph h accepted room) accepted shown in
    (same.1, same.2)

pub no_read_of_trials : NoReadOfTrials
no_read_of_trials asked input before now (of_input reads rose same) = absurd (cc)
no_read_of_trials asked input before now (of_file other is reads admitted rose same) = absurd (cc)
