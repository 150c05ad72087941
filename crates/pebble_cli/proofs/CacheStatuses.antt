-- The laws of the answers of `cache`: where its statuses stand.
use Rattle.std.proofs.Common.{◌≡◌, ◌*◌, ◌-◌, ◌≤◌, ◌<◌, true, length, refl, sym, ap, ◌∙◌, subst}
use Rattle.std.specs.Prelude.{◌^◌}
use Rattle.comp_graph.specs.Dags.{degree}
use Rattle.comp_graph.specs.Graphs.{GraphParts, IsGraph, dag_of}
use Rattle.comp_graph.proofs.GraphLaws.{IsDag-dag_of}
use Rattle.first_plan.specs.FirstPlan.{first_steps}
use Rattle.forced_bounds.proofs.Ends.{floor_of_finish}
use Rattle.potential_cert.specs.Table.{IsSupport, TableParts}
use Rattle.potential_cert.proofs.SupportLaws.{support_ignores_order}
use Rattle.search_laws.proofs.Count.{enough_budget_is_optimal}
use Rattle.command_words.specs.declared.commands.Command.TheVariants.{Cache}
use Rattle.command_words.specs.declared.commands.Planning.{Planning}
use Rattle.command_answers.specs.CacheAnswers.{IsCached, planning_beside}
use Rattle.command_answers.specs.PlanAnswers.{PlanNumbers, IsShown, plan_asked, rows_asked, search_asked, verdict_status}
use Rattle.command_answers.specs.PlayedGames.{played_for}
use Rattle.command_answers.proofs.Accepting.{accepted_graph, accepted_once}
use Rattle.command_answers.proofs.FoundPlans.{first_finishes, found_no_worse}
use Rattle.pebble_cli.specs.CacheLaws.{CacheStatuses, CachesAreAnswered, CachesAreOptimalWhereEnough}
use Rattle.pebble_cli.proofs.CommandLaws.{verdict_is, inputs_counted}
use Rattle.pebble_cli.proofs.Slotted.{refused_or, own_answer}

pub cache_statuses : CacheStatuses
cache_statuses asked input file status printed table h =
    refused_or (Cache asked) asked.slots input file status printed table refl refl h (λ k. (verdict_is k.numbers.optimal k.ends, k))

pub caches_are_answered : CachesAreAnswered
caches_are_answered asked input file status printed table kernel graph h accepted room =
    let k = own_answer (Cache asked) asked.slots input file status printed table kernel graph refl refl h accepted room in
    (verdict_is k.numbers.optimal k.ends, k)

-- with so great a budget the bound that is shown is the cost
shown_is_tight : (asked : Planning) (graph : GraphParts) (numbers : PlanNumbers) (table : TableParts) → IsGraph graph → degree (dag_of graph) < asked.slots → IsShown graph asked numbers table
    → 2 ^ (2 * length graph.nodes - length graph.names) ≤ asked.budget → numbers.optimal ≡ true
shown_is_tight asked graph numbers table valid room shown enough =
    let g = played_for asked graph in
    let rows = support_ignores_order g table.rows (rows_asked asked graph) numbers.cost numbers.bound (λ r. ((shown.rows r).1, (shown.rows r).0)) shown.support in
    let costs : (plan_asked asked graph).total ≡ (search_asked asked graph).cost = (found_no_worse asked graph valid room).costs in
    let support = subst (λ cost. IsSupport g (rows_asked asked graph) cost numbers.bound) (shown.cost ∙ costs) rows in
    let many = subst (λ i. 2 ^ (2 * length graph.nodes - i) ≤ asked.budget) (sym (inputs_counted graph valid)) enough in
    let bound = enough_budget_is_optimal floor_of_finish g (IsDag-dag_of graph valid) (first_steps g) (first_finishes asked graph valid room) asked.budget many numbers.bound support in
    shown.is_optimal.1 (bound ∙ sym costs ∙ sym shown.cost)

pub caches_are_optimal_where_enough : CachesAreOptimalWhereEnough
caches_are_optimal_where_enough asked input file status printed table kernel graph h accepted room enough =
    let k : IsCached asked input status printed table = own_answer (Cache asked) asked.slots input file status printed table kernel graph refl refl h accepted room in
    let graphs : graph ≡ k.graph = (accepted_once input kernel k.kernel graph k.graph accepted k.accepted).1 in
    let here = subst (λ (g : GraphParts). 2 ^ (2 * length g.nodes - length g.names) ≤ asked.budget) graphs enough in
    k.ends ∙ ap verdict_status (shown_is_tight (planning_beside asked) k.graph k.numbers k.table_parts (accepted_graph k.accepted) k.room k.shown here)
