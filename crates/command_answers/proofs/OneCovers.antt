-- A text has one answer of `cover`: the search fixes the numbers, the code and the covered table. And what `cover` wrote is accepted.
use Rattle.std.proofs.Common.{◌≡◌, ℕ, ◌*◌, ◌-◌, ◌^◌, ◌≤◌, List, length, Option, Some, sym, ap, ◌∙◌, subst, arith}
use Rattle.comp_graph.specs.Graphs.{GraphParts, dag_of}
use Rattle.comp_graph.specs.Vertices.{size}
use Rattle.comp_graph.proofs.GraphLaws.{IsDag-dag_of}
use Rattle.cover_cert.specs.CoverBytes.{cover_bytes}
use Rattle.cover_cert.specs.CoverSearch.{cover_rows}
use Rattle.cover_cert.specs.CoverTable.{CoverTableParts, IsCoverSupport}
use Rattle.cover_cert.proofs.CoverLengths.{few_names, length_cover}
use Rattle.cover_cert.proofs.Results.{cover_enough_budget_is_optimal}
use Rattle.cover_cert.proofs.Support.{cover_support_is_one}
use Rattle.first_plan.specs.FirstPlan.{first_steps}
use Rattle.forced_bounds.proofs.Ends.{floor_of_finish}
use Rattle.potential_cert.specs.Order.{precedes}
use Rattle.potential_cert.proofs.Order.{precedes_is_strict}
use Rattle.potential_cert.proofs.Rising.{rising_is_one}
use Rattle.slot_alloc.specs.PlanCode.{plan_code}
use Rattle.command_words.specs.declared.commands.Covering.{Covering}
use Rattle.command_answers.specs.declared.status.Status.{Status}
use Rattle.command_answers.specs.declared.status.Status.TheVariants.{Optimal}
use Rattle.command_answers.specs.CoverAnswers.{IsCoverShown, IsCovered, cover_asked, cover_plan_asked, planning_covered}
use Rattle.command_answers.specs.CoverCheckAnswers.{IsCoverCertificate}
use Rattle.command_answers.specs.PlanAnswers.{PlanNumbers, plan_text, verdict_status}
use Rattle.command_answers.specs.PlayedGames.{played_for}
use Rattle.command_answers.proofs.Accepting.{accepted_once}
use Rattle.command_answers.proofs.FoundCovers.{cover_no_worse}
use Rattle.command_answers.proofs.FoundPlans.{first_finishes}
use Rattle.command_answers.proofs.OneShown.{one_truth}

-- ---- one answer

-- one graph and one budget have one table and one row of numbers that are shown
pub cover_shown_is_one : (graph : GraphParts) (asked : Covering) (n m : PlanNumbers) (t u : CoverTableParts) → IsCoverShown graph asked n t → IsCoverShown graph asked m u → (n ≡ m) × (t ≡ u)
cover_shown_is_one graph asked n m t u a b =
    let g = played_for (planning_covered asked) graph in
    let costs : n.cost ≡ m.cost = a.cost ∙ sym b.cost in
    let sorted = rising_is_one precedes precedes_is_strict a.rows.sorted b.rows.sorted a.rows.rise b.rows.rise
    (λ r. (λ i. (b.rows.members r).0 ((a.rows.members r).1 i), λ i. (a.rows.members r).0 ((b.rows.members r).1 i))) in
    let rows : t.rows ≡ u.rows = a.rows.named ∙ ap (λ rs. cover_rows rs (cover_asked asked graph).names) sorted ∙ sym b.rows.named in
    let support : IsCoverSupport g u.rows m.cost n.bound = subst (λ c. IsCoverSupport g u.rows c n.bound) costs (subst (λ rs. IsCoverSupport g rs n.cost n.bound) rows a.support) in
    let bounds : n.bound ≡ m.bound = cover_support_is_one g u.rows m.cost n.bound m.bound support b.support in
    let optimal : n.optimal ≡ m.optimal = one_truth n.optimal m.optimal a.is_optimal
    (λ e. bounds ∙ b.is_optimal.0 e ∙ sym costs, λ e. b.is_optimal.1 (sym bounds ∙ e ∙ costs)) in (
      λ i. record {
        first = (a.first ∙ sym b.first) i;
        cost = costs i;
        bound = bounds i;
        expanded = (sym a.expanded ∙ ap length rows ∙ b.expanded) i;
        optimal = optimal i;
      },
      λ i. record {
        slots = (a.tabled.slots ∙ sym b.tabled.slots) i;
        vertices = (a.tabled.vertices ∙ sym b.tabled.vertices) i;
        load = (a.tabled.load ∙ sym b.tabled.load) i;
        store = (a.tabled.store ∙ sym b.tabled.store) i;
        bound = (a.bound ∙ bounds ∙ sym b.bound) i;
        rows = rows i;
      },
    )

-- so a text has at most one answer
pub covered_is_one : (asked : Covering) (text : List ℕ) (s t : Status) (p q : List ℕ) (a b : Option (List ℕ)) → IsCovered asked text s p a → IsCovered asked text t q b
    → (s ≡ t) × (p ≡ q) × (a ≡ b)
covered_is_one asked text s t p q a b h k =
    let once = accepted_once text h.kernel k.kernel h.graph k.graph h.accepted k.accepted in
    let shown : IsCoverShown k.graph asked h.plan.numbers h.table_parts = subst (λ g. IsCoverShown g asked h.plan.numbers h.table_parts) once.1 h.shown in
    let same = cover_shown_is_one k.graph asked h.plan.numbers k.plan.numbers h.table_parts k.table_parts shown k.shown in
    let codes : h.plan.code ≡ k.plan.code = h.code ∙ ap (λ g. plan_code (cover_plan_asked asked g)) once.1 ∙ sym k.code in
    let plans : h.plan ≡ k.plan = λ i. record { numbers = same.0 i; code = codes i } in (
      h.ends ∙ ap (λ (n : PlanNumbers). verdict_status n.optimal) same.0 ∙ sym k.ends,
      h.report ∙ (λ i. plan_text (once.0 i).title (once.1 i) (planning_covered asked) (plans i)) ∙ sym k.report,
      h.written ∙ ap Some (h.spelled.bytes_are ∙ ap cover_bytes same.1 ∙ sym k.spelled.bytes_are) ∙ sym k.written,
    )

-- ---- what an answer says

-- where the budget is at least the number of positions with blue inputs, the status is Optimal
pub covered_is_optimal : (asked : Covering) (text : List ℕ) (status : Status) (printed : List ℕ) (table : Option (List ℕ)) → (is : IsCovered asked text status printed table)
    → 2 ^ (2 * (dag_of is.graph).count - size (dag_of is.graph).inputs) ≤ asked.budget → status ≡ Optimal
covered_is_optimal asked text status printed table is enough =
    let g = played_for (planning_covered asked) is.graph in
    let costs : is.plan.numbers.cost ≡ (cover_asked asked is.graph).search.cost = is.shown.cost ∙ (cover_no_worse asked is.graph is.valid is.room).costs in
    let support = subst (λ c. IsCoverSupport g is.table_parts.rows c is.plan.numbers.bound) costs is.shown.support in
    let same = cover_enough_budget_is_optimal floor_of_finish g (IsDag-dag_of is.graph is.valid) (first_steps g) (first_finishes (planning_covered asked) is.graph is.valid is.room) asked.budget enough
    is.table_parts.rows is.shown.rows is.plan.numbers.bound support in
    is.ends ∙ ap verdict_status (is.shown.is_optimal.1 (same ∙ sym costs))

-- the bytes that are written are a covered table file of the game
pub covered_is_certificate : (asked : Covering) (text : List ℕ) (status : Status) (printed bytes : List ℕ) → (is : IsCovered asked text status printed (Some bytes)) → asked.slots ≤ 64 → asked.budget ≤ 8000
    → IsCoverCertificate (played_for (planning_covered asked) is.graph) bytes is.table_parts
covered_is_certificate asked text status printed bytes is most budget =
    let g = played_for (planning_covered asked) is.graph in
    let same : is.bytes ≡ bytes = let written = is.written in cc in
    let holds = is.shown.tabled.holds in
    let long = length_cover is.bytes is.table_parts is.spelled
    (λ r i. few_names g is.table_parts.rows r is.valid.small most (holds.sound r i) (holds.names r i)) in
    let few = is.shown.few in
    let expanded = is.shown.expanded in
    subst (λ bs. IsCoverCertificate g bs is.table_parts) same
    (record { file = record { short = omega (arith, long, few, expanded, budget); spelled = is.spelled }; of_game = is.shown.tabled })
