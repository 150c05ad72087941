-- What the searches of the parts answer, the sum of their bounds, and the bytes of their tables.
use Rattle.std.specs.Prelude.{◌≡◌, ℕ, ◌≤◌, List, length, flat_map, sum_by, Some, slice_get}
use Rattle.std.specs.List.{All}
use Rattle.comp_graph.specs.Games.{PebbleGame, GameParts, game_of}
use Rattle.pebble_rules.specs.Rules.{start, IsComplete, cost}
use Rattle.pebble_rules.specs.declared.moves.Move.{Move}
use Rattle.normal_steps.specs.Steps.{total_cost}
use Rattle.first_plan.specs.FirstPlan.{first_steps}
use Rattle.potential_cert.specs.TableBytes.{IsInRange, CanBeSpelled, table_bytes}
use Rattle.search_laws.specs.Search.{searched}
use Rattle.branch_bound.specs.Founds.{IsSearchedTable}
use Rattle.part_bounds.specs.declared.searching.PartBound.{PartBound}
use Rattle.part_bounds.specs.Parts.{part_game}
use Rattle.part_bounds.specs.Laws.{IsBound}

-- a complete pebbling costs just so much
abbrev pub IsPaid : PebbleGame → ℕ → Type 0
IsPaid g total = (ms : List Move) × IsComplete g (start g) ms × (cost g ms ≡ total)

-- What the search of a game from its first plan answers, with this budget of rows: the cost of the plan that it finds, which is that of a
-- complete pebbling and no more than the first plan's, and the table of its rows, which supports a bound and can be written
pub record IsPartBound (g : PebbleGame) (budget : ℕ) (found : PartBound) : Type 0 where
  pub searched_cost : found.cost ≡ (searched g (first_steps g) budget).cost
  pub no_more : found.cost ≤ total_cost g (start g) (first_steps g)
  pub paid : IsPaid g found.cost
  pub table : IsSearchedTable g (first_steps g) budget found.cost found.table
  pub in_range : IsInRange found.table

-- the sum of the bounds
abbrev pub sum_of_bounds : List PartBound → ℕ
sum_of_bounds found = sum_by (λ one. one.table.bound) found

-- each table is in its range
abbrev pub AreInRange : List PartBound → Type 0
AreInRange found = All (λ one. IsInRange one.table) found

-- one for each part, in order of the parts; their tables can be written, and the sum of their bounds is a bound for the game, of 32 bits
pub record ArePartBounds (g : GameParts) (parts budget : ℕ) (found : List PartBound) : Type 0 where
  pub count : length found ≡ parts
  pub each : (k : ℕ) (one : PartBound) → slice_get found k ≡ Some one → IsPartBound (part_game g parts k) budget one
  pub bound : IsBound (game_of g) (sum_of_bounds found)
  pub fits : sum_of_bounds found ≤ 4294967295
  pub in_range : AreInRange found

-- the bytes are those of the tables, one after another
pub record AreSpellings (bytes : List ℕ) (found : List PartBound) : Type 0 where
  pub fit : All (λ one. CanBeSpelled one.table) found
  pub bytes_are : bytes ≡ flat_map (λ one. table_bytes one.table) found
