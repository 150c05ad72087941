-- The support by the waiting entries.
use Rattle.std.specs.Prelude.{◌≡◌, true, ℕ, ◌+◌, ◌≤◌, ◌<◌, ◌⊎◌, List}
use Rattle.comp_graph.specs.Games.{PebbleGame}
use Rattle.comp_graph.specs.Dags.{IsDag}
use Rattle.pebble_rules.specs.Rules.{start}
use Rattle.normal_steps.specs.Steps.{IsFinishing}
use Rattle.normal_steps.specs.declared.step.Step.{Step}
use Rattle.comp_graph.specs.Lists.{IsIn}
use Rattle.forced_bounds.specs.Floor.{floor}
use Rattle.potential_cert.specs.Table.{IsSupport}
use Rattle.search_laws.specs.Packing.{Store}
use Rattle.search_laws.specs.Search.{Entry, Search, is_waiting, searched, rows_searched}

-- the least of the cost and of what plays through the waiting entries cost at least
pub record IsLeastWaiting (g : PebbleGame) (t : Search) (least : ℕ) : Type 0 where
  pub within_cost : least ≤ t.cost
  pub within_waiting : (e : Entry) → IsIn e t.entries → is_waiting e.mark ≡ true → least ≤ e.cost + floor g e.position
  pub is_met : (least ≡ t.cost) ⊎ ((e : Entry) × IsIn e t.entries × (is_waiting e.mark ≡ true) × (least ≡ e.cost + floor g e.position))

-- it is the support of the search's rows
abbrev pub SupportIsLeastWaiting : Type 0
SupportIsLeastWaiting = (g : PebbleGame) → IsDag g.dag → (plan : List Step) → IsFinishing g (start g) plan → (budget least : ℕ)
    → IsLeastWaiting g (searched g plan budget) least → IsSupport g (rows_searched g plan budget) (searched g plan budget).cost least

-- the least of the cost and of what plays through the places that wait cost at least
pub record IsLeastPlace (s : Store) (cost least n : ℕ) : Type 0 where
  pub within_cost : least ≤ cost
  pub within_places : (k : ℕ) → k < n → is_waiting (s.at k).mark ≡ true → least ≤ (s.at k).cost + (s.at k).floor
  pub is_met : (least ≡ cost) ⊎ ((k : ℕ) × (k < n) × (is_waiting (s.at k).mark ≡ true) × (least ≡ (s.at k).cost + (s.at k).floor))
