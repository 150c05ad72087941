-- Without effort the answer of `improve` is that of `plan` without a budget, but for the line of the effort, and all its answers are one.
use Rattle.std.proofs.Common.{◌≡◌, ◌≤◌, ◌<◌, ℕ, Bool, true, false, List, [], ◌∷◌, length, Option, Some, inl, inr, refl, sym, ap, ◌∙◌, subst, arith}
use Rattle.comp_graph.specs.Games.{PebbleGame, game_of}
use Rattle.comp_graph.specs.Graphs.{GraphParts}
use Rattle.comp_graph.specs.Lists.{IsIn}
use Rattle.first_plan.specs.FirstPlan.{first_steps}
use Rattle.forced_bounds.specs.Floor.{floor}
use Rattle.kernel_ast.specs.KernelParts.{KernelParts}
use Rattle.normal_steps.specs.Plans.{PlanParts}
use Rattle.normal_steps.specs.Steps.{total_cost}
use Rattle.normal_steps.specs.declared.step.Step.{Step}
use Rattle.pebble_rules.specs.Rules.{start}
use Rattle.potential_cert.specs.declared.tables.Row.{Row}
use Rattle.potential_cert.specs.Table.{IsSupport, TableParts}
use Rattle.potential_cert.specs.TableBytes.{table_bytes}
use Rattle.potential_cert.specs.TableLaws.{HaveSameMembers}
use Rattle.search_laws.specs.Search.{Search, begun, rows_of, searched}
use Rattle.search_laws.proofs.Results.{begun_rows}
use Rattle.search_laws.proofs.Turns.{search_ends}
use Rattle.slot_alloc.specs.PlanCode.{plan_code}
use Rattle.command_answers.specs.declared.status.Status.{Status}
use Rattle.command_answers.specs.PlanAnswers.{IsAnswer, IsPlanned, IsShown, PlanNumbers, PrintedPlan, first_plan_of, plan_asked, plan_text, rows_asked, verdict_status}
use Rattle.command_answers.proofs.Accepting.{accepted_once}
use Rattle.command_answers.proofs.OneShown.{shown_is_one}
use Rattle.improve_answers.specs.declared.commands.Improving.{Improving}
use Rattle.improve_answers.specs.Improved.{IsImproved, IsImprovement, game_improved, improved_text, without_budget}
use Rattle.improve_answers.proofs.Tables.{begun_plan}

-- ---- the search without a budget

-- it leaves what it began with
search_stays : (g : PebbleGame) (steps : List Step) → searched g steps 0 ≡ begun g steps
search_stays g steps = search_ends g (begun g steps)

no_rows_searched : (g : PebbleGame) (steps : List Step) → rows_of (searched g steps 0).entries ≡ []
no_rows_searched g steps = ap (λ (t : Search). rows_of t.entries) (search_stays g steps) ∙ begun_rows g steps

plan_searched : (g : PebbleGame) (steps : List Step) → (searched g steps 0).plan ≡ steps
plan_searched g steps = ap (λ (t : Search). t.plan) (search_stays g steps) ∙ begun_plan g steps

-- so its plan is the first plan
planned_is_first : (asked : Improving) (graph : GraphParts) → plan_asked (without_budget asked) graph ≡ first_plan_of (game_improved asked graph)
planned_is_first asked graph =
    let g = game_of (game_improved asked graph) in
    λ i. record {
      game = game_improved asked graph;
      steps = plan_searched g (first_steps g) i;
      total = total_cost g (start g) (plan_searched g (first_steps g) i);
    }

-- ---- tables without rows

none_left : (rows : List Row) → length rows ≡ 0 → rows ≡ []
none_left [] none = refl
none_left (r ∷ rs) none = absurd (omega (arith, none))

same_members : (rows others : List Row) → rows ≡ [] → others ≡ [] → HaveSameMembers rows others
same_members rows others none also r =
    (λ i. absurd (subst (λ rs. IsIn r rs) none i), λ i. absurd (subst (λ rs. IsIn r rs) also i))

-- the bound without rows is the floor of the start
support_without_rows : (g : PebbleGame) (rows : List Row) (cost bound : ℕ) → rows ≡ [] → bound ≤ cost → bound ≡ floor g (start g) → IsSupport g rows cost bound
support_without_rows g rows cost bound none most low = record {
  within_cost = most;
  within_floor = λ e. omega (arith, low);
  within_offers = λ r s leaving. absurd (subst (λ rs. IsIn r rs) none leaving.row);
  is_met = inr (inl (none, low));
}

-- a verdict says that the bound is at most the cost
bound_within : (optimal : Bool) (bound cost : ℕ) → (optimal ≡ true → bound ≡ cost) → (optimal ≡ false → bound < cost) → bound ≤ cost
bound_within true bound cost same less = let is = same refl in omega (arith, is)
bound_within false bound cost same less = let is = less refl in omega (arith, is)

-- ---- without effort

-- the numbers and the table are those of `plan` without a budget
shown_without_effort : (kernel : KernelParts) (graph : GraphParts) (asked : Improving) (numbers : PlanNumbers) (plan : PlanParts) (table : TableParts) → asked.effort ≡ 0
    → IsImprovement kernel graph asked numbers plan table → IsShown graph (without_budget asked) numbers table
shown_without_effort kernel graph asked numbers plan table none h =
    let g = game_of (game_improved asked graph) in
    let idle = h.effortless none in
    let expanded = idle.1 in
    let rows : table.rows ≡ [] = none_left table.rows (h.expanded ∙ expanded) in
    let within = bound_within numbers.optimal numbers.bound numbers.cost h.is_optimal.0 h.is_open.0 in
    record {
      first = h.first;
      no_more = h.no_more;
      tabled = h.tabled;
      bound = h.bound;
      expanded = h.expanded;
      rows = same_members (rows_asked (without_budget asked) graph) table.rows (no_rows_searched g (first_steps g)) rows;
      cost = h.cost ∙ ap (λ (p : PlanParts). p.total) (idle.0 ∙ sym (planned_is_first asked graph));
      support = support_without_rows g table.rows numbers.cost numbers.bound rows within idle.2;
      few = omega (arith, expanded);
      is_optimal = h.is_optimal;
      is_open = (λ e. (expanded, h.is_open.0 e), λ both. h.is_open.1 both.1);
      lowest = h.lowest;
    }

-- what `plan` prints of it
abbrev printed_without : PlanNumbers → PlanParts → PrintedPlan
printed_without numbers plan = record { numbers = numbers; code = plan_code plan }

-- with the code, they are the answer of `plan` without a budget
answer_without_effort : (kernel : KernelParts) (graph : GraphParts) (asked : Improving) (numbers : PlanNumbers) (plan : PlanParts) (table : TableParts) → asked.effort ≡ 0
    → IsImprovement kernel graph asked numbers plan table → IsAnswer kernel graph (without_budget asked) (printed_without numbers plan) table
answer_without_effort kernel graph asked numbers plan table none h = record {
  shown = shown_without_effort kernel graph asked numbers plan table none h;
  code = ap plan_code ((h.effortless none).0 ∙ sym (planned_is_first asked graph));
  right = h.right;
}

pub planned_without_effort : (asked : Improving) (text : List ℕ) (status : Status) (printed : List ℕ) (table : Option (List ℕ)) → asked.effort ≡ 0
    → (h : IsImproved asked text status printed table)
    → IsPlanned (without_budget asked) text status (plan_text h.kernel.title h.graph (without_budget asked) (record { numbers = h.numbers; code = plan_code h.plan })) table
planned_without_effort asked text status printed table none h = record {
  kernel = h.kernel;
  graph = h.graph;
  accepted = h.accepted;
  valid = h.valid;
  room = h.room;
  plan = printed_without h.numbers h.plan;
  table_parts = h.certificate;
  answer = answer_without_effort h.kernel h.graph asked h.numbers h.plan h.certificate none h.answer;
  ends = h.ends;
  report = refl;
  bytes = h.bytes;
  written = h.written;
  spelled = h.spelled;
}

-- so two answers are one
pub one_without_effort : (asked : Improving) (text : List ℕ) (s t : Status) (p q : List ℕ) (a b : Option (List ℕ)) → asked.effort ≡ 0 → IsImproved asked text s p a → IsImproved asked text t q b
    → (s ≡ t) × (p ≡ q) × (a ≡ b)
one_without_effort asked text s t p q a b none h k = (
  h.ends ∙ ap (λ (n : PlanNumbers). verdict_status n.optimal) same.0 ∙ sym k.ends,
  h.report ∙ texts ∙ sym k.report,
  h.written ∙ ap (λ bytes. Some bytes) (h.spelled.bytes_are ∙ ap table_bytes same.1 ∙ sym k.spelled.bytes_are) ∙ sym k.written,
)
  where
    kernels : h.kernel ≡ k.kernel
    kernels = (accepted_once text h.kernel k.kernel h.graph k.graph h.accepted k.accepted).0

    graphs : h.graph ≡ k.graph
    graphs = (accepted_once text h.kernel k.kernel h.graph k.graph h.accepted k.accepted).1

    here : IsShown h.graph (without_budget asked) h.numbers h.certificate
    here = shown_without_effort h.kernel h.graph asked h.numbers h.plan h.certificate none h.answer

    there : IsShown k.graph (without_budget asked) k.numbers k.certificate
    there = shown_without_effort k.kernel k.graph asked k.numbers k.plan k.certificate none k.answer

    same : (h.numbers ≡ k.numbers) × (h.certificate ≡ k.certificate)
    same = shown_is_one k.graph (without_budget asked) h.numbers k.numbers h.certificate k.certificate
        (subst (λ g. IsShown g (without_budget asked) h.numbers h.certificate) graphs here) there

    plans : h.plan ≡ k.plan
    plans = (h.answer.effortless none).0 ∙ ap (λ g. first_plan_of (game_improved asked g)) graphs ∙ sym (k.answer.effortless none).0

    texts : improved_text h.kernel.title h.graph asked h.numbers h.plan ≡ improved_text k.kernel.title k.graph asked k.numbers k.plan
    texts = λ i. improved_text (kernels i).title (graphs i) asked (same.0 i) (plans i)
