-- What the cache does and what a search finds beside it answer the text; there is one such answer.
use Rattle.std.proofs.Common.{◌≡◌, ℕ, ◌≤◌, ◌<◌, List, Option, Some, refl, sym, ap, ◌∙◌, subst, arith}
use Rattle.cache_model.specs.Caches.{whole_run}
use Rattle.cache_model.specs.CacheRuns.{IsCacheRun}
use Rattle.cache_model.specs.declared.caching.CacheRun.{CacheRun}
use Rattle.cache_model.proofs.Pebbling.{caches_are_pebblings}
use Rattle.pebble_rules.specs.Transfers.{loads, stores}
use Rattle.pebble_rules.proofs.Transfers.{cost_weighs}
use Rattle.comp_graph.specs.Dags.{degree}
use Rattle.comp_graph.specs.Graphs.{GraphParts, dag_of}
use Rattle.comp_graph.specs.Games.{GameParts, IsGame, game_of}
use Rattle.comp_graph.proofs.GraphLaws.{IsDag-dag_of}
use Rattle.kernel_ast.specs.KernelParts.{KernelParts}
use Rattle.normal_steps.specs.Plans.{PlanParts, IsPlan}
use Rattle.pebble_rules.specs.Rules.{start, IsComplete, cost as moves_cost}
use Rattle.plan_report.specs.CacheText.{cache_text}
use Rattle.potential_cert.specs.Table.{TableParts}
use Rattle.potential_cert.specs.TableBytes.{IsSpelling, table_bytes}
use Rattle.branch_bound.specs.Founds.{IsFound}
use Rattle.branch_bound.specs.declared.searching.Found.{Found}
use Rattle.command_words.specs.declared.commands.Caching.{Caching}
use Rattle.command_answers.specs.declared.status.Status.{Status}
use Rattle.command_answers.specs.Accepted.{IsAccepted}
use Rattle.command_answers.specs.CacheAnswers.{IsCached, cache_facts, facts_beside, planning_beside, run_asked}
use Rattle.command_answers.specs.MadeAnswers.{is_optimal, numbers_of}
use Rattle.command_answers.specs.PlanAnswers.{PlanNumbers, IsShown, first_plan_of, verdict_status}
use Rattle.command_answers.specs.PlayedGames.{HasPebbling, game_asked, played_for}
use Rattle.command_answers.proofs.Accepting.{accepted_once, accepted_graph}
use Rattle.command_answers.proofs.FoundPlans.{found_for, found_is_shown, found_shown, numbers_with, plan_is_possible}
use Rattle.command_answers.proofs.OneShown.{shown_is_one}
use Rattle.command_answers.proofs.SomePlans.{table_asked, is_searched, is_spelled}

-- ---- the run

-- the moves of the cache are a complete pebbling
run_completes : (asked : Caching) (graph : GraphParts) → IsGame (game_asked (planning_beside asked) graph)
    → IsComplete (played_for (planning_beside asked) graph) (start (played_for (planning_beside asked) graph)) (run_asked asked graph).moves
run_completes asked graph game = caches_are_pebblings (played_for (planning_beside asked) graph) (IsDag-dag_of graph game.valid) game.room

-- which costs 1 for each load and each store
run_costs : (asked : Caching) (graph : GraphParts) (numbers : PlanNumbers)
    → moves_cost (played_for (planning_beside asked) graph) (run_asked asked graph).moves ≡ (facts_beside asked graph numbers).cost
run_costs asked graph numbers =
    let counted = cost_weighs (played_for (planning_beside asked) graph) (run_asked asked graph).moves in
    omega (arith, counted)

-- what was counted of a run is printed as the definition has it
run_printed : (asked : Caching) (game : GameParts) (run : CacheRun) (numbers : PlanNumbers) → game ≡ game_asked (planning_beside asked) game.graph → IsCacheRun (game_of game) run
    → cache_facts run.loads run.stores run.hits numbers ≡ facts_beside asked game.graph numbers
run_printed asked game run numbers played is =
    let whole = ap (λ g. whole_run (game_of g)) played in
    λ i. cache_facts ((is.loads ∙ ap (λ c. loads c.moves) whole) i) ((is.stores ∙ ap (λ c. stores c.moves) whole) i) ((is.hits ∙ ap (λ c. c.hits) whole) i) numbers

-- ---- the answer

-- numbers and a table that are shown, with their lines and bytes, answer the text
shown_is_cached : (asked : Caching) (text : List ℕ) (kernel : KernelParts) (graph : GraphParts) (numbers : PlanNumbers) (table : TableParts) (status : Status) (printed bytes : List ℕ)
    → IsGame (game_asked (planning_beside asked) graph) → IsAccepted text kernel graph → IsShown graph (planning_beside asked) numbers table → status ≡ verdict_status numbers.optimal
    → printed ≡ cache_text (facts_beside asked graph numbers) → IsSpelling bytes table → IsCached asked text status printed (Some bytes)
shown_is_cached asked text kernel graph numbers table status printed bytes game accepted shown ends lines spelled =
    let complete = run_completes asked graph game in
    let costs = run_costs asked graph numbers in
    record {
      kernel = kernel;
      graph = graph;
      accepted = accepted;
      room = game.room;
      numbers = numbers;
      table_parts = table;
      shown = shown;
      possible = subst (HasPebbling (game_asked (planning_beside asked) graph)) (sym shown.cost) (plan_is_possible (planning_beside asked) graph game);
      complete = complete;
      costs = costs;
      no_less = (let least = shown.lowest (run_asked asked graph).moves complete in omega (arith, least, costs));
      ends = ends;
      lines = lines;
      bytes = bytes;
      written = refl;
      spelled = spelled;
    }

-- what is printed and written of a run of the cache and a search from the first plan answers the text
pub found_is_cached : (asked : Caching) (game : GameParts) (run : CacheRun) (first : PlanParts) (found : Found) (text : List ℕ) (kernel : KernelParts) (status : Status) (printed bytes : List ℕ)
    → game ≡ game_asked (planning_beside asked) game.graph → IsGame game → IsCacheRun (game_of game) run → first ≡ first_plan_of game → IsFound first asked.budget found → IsPlan found.plan
    → IsAccepted text kernel game.graph → status ≡ verdict_status (is_optimal found.verdict) → printed ≡ cache_text (cache_facts run.loads run.stores run.hits (numbers_of found))
    → IsSpelling bytes found.table → IsCached asked text status printed (Some bytes)
found_is_cached asked game run first found text kernel status printed bytes played valid is_run first_is at is_plan accepted ends lines spelled =
    let is = found_for (planning_beside asked) game first found played valid first_is at is_plan in
    shown_is_cached asked text kernel game.graph (numbers_of found) found.table status printed bytes is.game accepted (found_is_shown (planning_beside asked) game.graph found is) ends
    (lines ∙ ap cache_text (run_printed asked game run (numbers_of found) played is_run)) spelled

-- ---- there is one answer

-- a text has at most one answer
pub cached_is_one : (asked : Caching) (text : List ℕ) (s t : Status) (p q : List ℕ) (a b : Option (List ℕ)) → IsCached asked text s p a → IsCached asked text t q b
    → (s ≡ t) × (p ≡ q) × (a ≡ b)
cached_is_one asked text s t p q a b h k =
    let graphs : h.graph ≡ k.graph = (accepted_once text h.kernel k.kernel h.graph k.graph h.accepted k.accepted).1 in
    let shown : IsShown k.graph (planning_beside asked) h.numbers h.table_parts = subst (λ g. IsShown g (planning_beside asked) h.numbers h.table_parts) graphs h.shown in
    let same = shown_is_one k.graph (planning_beside asked) h.numbers k.numbers h.table_parts k.table_parts shown k.shown in (
      h.ends ∙ ap (λ (n : PlanNumbers). verdict_status n.optimal) same.0 ∙ sym k.ends,
      h.lines ∙ (λ i. cache_text (facts_beside asked (graphs i) (same.0 i))) ∙ sym k.lines,
      h.written ∙ ap Some (h.spelled.bytes_are ∙ ap table_bytes same.1 ∙ sym k.spelled.bytes_are) ∙ sym k.written,
    )

-- an accepted text with enough slots has an answer
pub cached_is_some : (asked : Caching) (text : List ℕ) (kernel : KernelParts) (graph : GraphParts) → 0 < asked.slots → asked.slots ≤ 64 → asked.budget ≤ 150000
    → IsAccepted text kernel graph → degree (dag_of graph) < asked.slots → (status : Status) × (printed : List ℕ) × (table : Option (List ℕ)) × IsCached asked text status printed table
cached_is_some asked text kernel graph some most budget accepted room =
    let planning = planning_beside asked in
    let game : IsGame (game_asked planning graph) = record {
      valid = accepted_graph accepted;
      most = most;
      room = room;
      weights = record { load_some = omega arith; load_most = omega arith; store_some = omega arith; store_most = omega arith };
    } in
    let table = table_asked planning graph game in
    let numbers = numbers_with planning graph table in
    let status = verdict_status numbers.optimal in
    let printed = cache_text (facts_beside asked graph numbers) in (
      status,
      printed,
      Some (table_bytes table),
      shown_is_cached asked text kernel graph numbers table status printed (table_bytes table) game accepted
          (found_shown planning graph table game (is_searched planning graph game)) refl refl (is_spelled planning graph game budget some),
    )
