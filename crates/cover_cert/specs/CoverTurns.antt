-- How the places of a search and the rows that were made stand for the search that names covering rows, and what a turn does to them.
use Rattle.std.specs.Prelude.{◌≡◌, true, ℕ, ◌+◌, ◌-◌, ◌*◌, ◌≤◌, ◌<◌, List, ◌++◌, length}
use Rattle.comp_graph.specs.Games.{PebbleGame, GameParts, game_of}
use Rattle.pebble_rules.specs.Rules.{start}
use Rattle.normal_steps.specs.Steps.{total_cost}
use Rattle.normal_steps.specs.StepTests.{legal_steps}
use Rattle.normal_steps.specs.declared.step.Step.{Step}
use Rattle.comp_graph.specs.Lists.{IsIn}
use Rattle.potential_cert.specs.declared.tables.Row.{Row}
use Rattle.search_laws.specs.Search.{is_expanded, Search}
use Rattle.search_laws.specs.Packing as packing
use Rattle.search_laws.specs.Turning.{IsExpanding}
use Rattle.branch_bound.specs.declared.frontier.Best.{Best}
use Rattle.branch_bound.specs.declared.frontier.Frontier.{Frontier}
use Rattle.branch_bound.specs.Frontiers.{IsFrontier, StandApart, best_of, store_of}
use Rattle.cover_cert.specs.declared.making.Made.{Made}
use Rattle.cover_cert.specs.CoverMaking.{made_namings, made_row, made_rows}
use Rattle.cover_cert.specs.CoverSearch.{CoverSearch, Naming, all_named_or_tried, cover_search_on, cover_searched, namings_of}
use Rattle.cover_cert.specs.CoverStanding.{CoverStands}

-- the position and the cost of a place
abbrev pub row_at : packing.Store → ℕ → Row
row_at s k = record { position = (s.at k).position; cost = (s.at k).cost }

-- the row is that of a place that is marked so
abbrev pub IsMadePlace : packing.Store → Row → Type 0
IsMadePlace s r = (k : ℕ) × (k < s.size) × (is_expanded (s.at k).mark ≡ true) × (r ≡ row_at s k)

-- these rows are those of the places that are marked so
pub record AreMade (s : packing.Store) (rows : List Row) : Type 0 where
  pub places : (r : Row) → IsIn r rows → IsMadePlace s r
  pub all : (r : Row) → IsMadePlace s r → IsIn r rows

-- These steps from place k, the first of which has this number, are named or tried, and get these names: of all searches that the first
-- state stands for, the second one stands for what they become.
pub record AreNamedOrTried (g : PebbleGame) (k from : ℕ) (s : packing.Store) (b : packing.Best) (u : packing.Store) (c : packing.Best) (ss : List Step) (names : List Naming) : Type 0 where
  pub here : u.at k ≡ s.at k
  pub grows : s.size ≤ u.size
  pub rows : (j : ℕ) → j < u.size → is_expanded (u.at j).mark ≡ true → (j < s.size) × (u.at j ≡ s.at j)
  pub still : (j : ℕ) → j < s.size → is_expanded (s.at j).mark ≡ true → u.at j ≡ s.at j
  pub goes : (first : List Step) (plays : ℕ → List Step) (t : Search) → packing.Packs g first s b plays t
      → (after : ℕ → List Step) × (after k ≡ plays k) × (v : Search) × packing.Packs g first u c after v
      × ((before : List Naming) → all_named_or_tried g (packing.entry_at s plays k) from ss (record { search = t; names = before }) ≡ record { search = v; names = before ++ names })

-- the same of a frontier
pub record HasDone (g : PebbleGame) (k from : ℕ) (old new : Frontier) (was now : Best) (ss : List Step) (names : List Naming) : Type 0 where
  pub frontier : IsFrontier new
  pub done : AreNamedOrTried g k from (store_of old) (best_of was) (store_of new) (best_of now) ss names
  pub size : length new.rows.slots ≤ length old.rows.slots + length ss
  pub words : new.rows.words ≡ old.rows.words
  pub current : new.queues.current ≡ old.queues.current

-- of all legal steps from place k, which is this row, those before the rest are named or tried, and there is room for the rest; the rows
-- are those that were made, this one included
pub record IsDoing (game : GameParts) (k : ℕ) (r : Row) (rows : List Row) (old new : Frontier) (was now : Best) (names : List Naming) (number : ℕ) (rest : List Step) : Type 0 where
  pub steps : List Step
  pub all_are : legal_steps (game_of game) r.position ≡ steps ++ rest
  pub count : number ≡ length steps
  pub has_done : HasDone (game_of game) k 0 old new was now steps names
  pub wide : length game.graph.nodes ≤ 64 * new.rows.words
  pub expanding : IsExpanding (store_of new) k
  pub row : row_at (store_of new) k ≡ r
  pub current : new.queues.current ≡ r.cost
  pub room : length new.rows.slots + length rest < 4294967295
  pub made : AreMade (store_of new) rows

-- all legal steps from place k are named or tried, and this row is made of it
pub record HasMade (g : PebbleGame) (k : ℕ) (old new : Frontier) (was now : Best) (m : Made) : Type 0 where
  pub frontier : IsFrontier new
  pub done : AreNamedOrTried g k 0 (store_of old) (best_of was) (store_of new) (best_of now) (legal_steps g m.position) (made_namings m)
  pub row : made_row m ≡ row_at (store_of old) k
  pub size : length new.rows.slots ≤ length old.rows.slots + 384
  pub words : new.rows.words ≡ old.rows.words

-- the state stands for the search, whose rows with their names these are
pub record CoverPacks (g : PebbleGame) (first : List Step) (s : packing.Store) (b : packing.Best) (made : List Made) (t : CoverSearch) : Type 0 where
  pub plays : ℕ → List Step
  pub packs : packing.Packs g first s b plays t.search
  pub rows : AreMade s (made_rows made)
  pub apart : StandApart (made_rows made)
  pub names : (m : Made) → IsIn m made → made_namings m ≡ namings_of t.names m.position

-- so many turns are done: what is left of a search gives what the whole search gives
pub record IsCoverUnderWay (g : PebbleGame) (first : List Step) (budget turns : ℕ) (s : packing.Store) (b : packing.Best) (made : List Made) : Type 0 where
  pub search : CoverSearch
  pub packs : CoverPacks g first s b made search
  pub stands : CoverStands g (total_cost g (start g) first) search
  pub goes : cover_search_on g (budget - turns) search ≡ cover_searched g first budget

-- the state stands for what the whole search gives
abbrev pub IsCoverDone : PebbleGame → List Step → ℕ → packing.Store → packing.Best → List Made → Type 0
IsCoverDone g first budget s b made = CoverPacks g first s b made (cover_searched g first budget)

-- so many turns are done, with their frontier
pub record IsCoverSearching (game : GameParts) (first : List Step) (budget turns : ℕ) (f : Frontier) (b : Best) (made : List Made) : Type 0 where
  pub frontier : IsFrontier f
  pub wide : length game.graph.nodes ≤ 64 * f.rows.words
  pub size : length f.rows.slots ≤ 1 + turns * 384
  pub many : length made ≤ turns
  pub under_way : IsCoverUnderWay (game_of game) first budget turns (store_of f) (best_of b) made
