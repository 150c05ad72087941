-- What `cache` answers to an accepted kernel with enough slots (this project's convention): what a write-back cache does in the game where a
-- load and a store cost 1, and beside it the plan of the same game, with the table of that plan.
use Rattle.std.specs.Prelude.{◌≡◌, ℕ, ◌+◌, ◌≤◌, ◌<◌, List, Option, Some}
use Rattle.cache_model.specs.Caches.{Cache, whole_run}
use Rattle.pebble_rules.specs.Transfers.{loads, stores}
use Rattle.comp_graph.specs.Dags.{degree}
use Rattle.comp_graph.specs.Graphs.{GraphParts, dag_of}
use Rattle.comp_graph.specs.Games.{unit_weights}
use Rattle.kernel_ast.specs.KernelParts.{KernelParts}
use Rattle.pebble_rules.specs.Rules.{start, IsComplete, cost as moves_cost}
use Rattle.plan_report.specs.declared.cache.CacheFacts.{CacheFacts}
use Rattle.plan_report.specs.CacheText.{cache_text}
use Rattle.potential_cert.specs.Table.{TableParts}
use Rattle.potential_cert.specs.TableBytes.{IsSpelling}
use Rattle.command_words.specs.declared.commands.Caching.{Caching}
use Rattle.command_words.specs.declared.commands.Planning.{Planning}
use Rattle.command_answers.specs.declared.status.Status.{Status}
use Rattle.command_answers.specs.Accepted.{IsAccepted}
use Rattle.command_answers.specs.PlanAnswers.{PlanNumbers, IsShown, verdict_status}
use Rattle.command_answers.specs.PlayedGames.{HasPebbling, game_asked, played_for}

-- what is asked for of the plan beside the cache: a load and a store cost 1
abbrev pub planning_beside : Caching → Planning
planning_beside asked = record { slots = asked.slots; budget = asked.budget; weights = unit_weights }

-- the run of the cache that is asked for: with as many lines as slots
abbrev pub run_asked : Caching → GraphParts → Cache
run_asked asked graph = whole_run (played_for (planning_beside asked) graph)

-- the values of the lines: of a cache with so many loads, stores and hits, where a load and a store cost 1, and of the plan beside it
abbrev pub cache_facts : ℕ → ℕ → ℕ → PlanNumbers → CacheFacts
cache_facts loads stores hits numbers = record {
  loads = loads;
  stores = stores;
  hits = hits;
  cost = loads + stores;
  plan_cost = numbers.cost;
  bound = numbers.bound;
}

-- the values of the lines for the run that is asked for
abbrev pub facts_beside : Caching → GraphParts → PlanNumbers → CacheFacts
facts_beside asked graph numbers = cache_facts (loads (run_asked asked graph).moves) (stores (run_asked asked graph).moves) (run_asked asked graph).hits numbers

-- The text is accepted, and there are more slots than the degree of its graph; the numbers and the table are those of its plan, and a complete
-- pebbling of that cost exists. The moves of the cache are a complete pebbling too, whose cost is the sum of its loads and stores, so the
-- bound is at most that sum. The five lines are printed, the status is the verdict of the plan, and the bytes of the table are written.
pub record IsCached (asked : Caching) (text : List ℕ) (status : Status) (printed : List ℕ) (table : Option (List ℕ)) : Type 0 where
  pub kernel : KernelParts
  pub graph : GraphParts
  pub accepted : IsAccepted text kernel graph
  pub room : degree (dag_of graph) < asked.slots
  pub numbers : PlanNumbers
  pub table_parts : TableParts
  pub shown : IsShown graph (planning_beside asked) numbers table_parts
  pub possible : HasPebbling (game_asked (planning_beside asked) graph) numbers.cost
  pub complete : IsComplete (played_for (planning_beside asked) graph) (start (played_for (planning_beside asked) graph)) (run_asked asked graph).moves
  pub costs : moves_cost (played_for (planning_beside asked) graph) (run_asked asked graph).moves ≡ (facts_beside asked graph numbers).cost
  pub no_less : numbers.bound ≤ (facts_beside asked graph numbers).cost
  pub ends : status ≡ verdict_status numbers.optimal
  pub lines : printed ≡ cache_text (facts_beside asked graph numbers)
  pub bytes : List ℕ
  pub written : table ≡ Some bytes
  pub spelled : IsSpelling bytes table_parts
