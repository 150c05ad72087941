-- The frontier of a search as a packed state.
use Rattle.std.specs.Prelude.{◌≡◌, ℕ, ◌+◌, ◌*◌, ◌<◌, ◌≤◌, List, [], ◌∷◌, ◌++◌, length, reverse, cond, slice_index_or, zero, suc}
use Rattle.comp_graph.specs.Games.{PebbleGame, GameParts, game_of}
use Rattle.pebble_rules.specs.declared.position.Position.{Position}
use Rattle.pebble_rules.specs.Rules.{start}
use Rattle.normal_steps.specs.Steps.{IsFinishing, total_cost}
use Rattle.normal_steps.specs.StepTests.{legal_steps}
use Rattle.normal_steps.specs.declared.step.Step.{Step}
use Rattle.comp_graph.specs.Lists.{IsIn}
use Rattle.potential_cert.specs.declared.tables.Row.{Row}
use Rattle.position_arena.specs.declared.rows.Head.{Head}
use Rattle.position_arena.specs.Arenas.{Arena, IsWithinWords, slot_at}
use Rattle.search_laws.specs.Search as search
use Rattle.search_laws.specs.Packing as packing
use Rattle.search_laws.specs.Turning.{IsExpanding, AreTried, IsUnderWay, IsDone}
use Rattle.branch_bound.specs.Queues.{queue_at}
use Rattle.branch_bound.specs.declared.frontier.Mark.{Mark}
use Rattle.branch_bound.specs.declared.frontier.Mark.TheVariants.{Waiting, Expanded, GivenUp}
use Rattle.branch_bound.specs.declared.frontier.Note.{Note}
use Rattle.branch_bound.specs.declared.frontier.Best.{Best}
use Rattle.branch_bound.specs.declared.frontier.Frontier.{Frontier}
use Rattle.branch_bound.specs.declared.searching.Searched.{Searched}

abbrev pub mark_of : Mark → search.Mark
mark_of Waiting = search.waiting
mark_of Expanded = search.expanded
mark_of GivenUp = search.given_up

-- what stands past the end
abbrev pub no_note : Note
no_note = record { floor = 0; mark = GivenUp }

abbrev pub note_at : List Note → ℕ → Note
note_at notes k = slice_index_or notes k no_note

abbrev pub place_of : Position → Head → search.Mark → ℕ → packing.Place
place_of p head mark floor = record { position = p; cost = head.cost; parent = head.parent; step = head.step; mark = mark; floor = floor }

abbrev pub place_in : Arena → List Note → ℕ → packing.Place
place_in rows notes k = place_of (slot_at rows k).position (slot_at rows k).head (mark_of (note_at notes k).mark) (note_at notes k).floor

abbrev pub place_at : Frontier → ℕ → packing.Place
place_at f k = place_in f.rows f.notes.items k

abbrev pub store_of : Frontier → packing.Store
store_of f = record { size = length f.rows.slots; at = place_at f; queue = queue_at f.queues }

abbrev pub best_of : Best → packing.Best
best_of b = record { cost = b.cost; from = b.from; step = b.step }

-- the positions of the rows are below 64 times their words
pub record AreNarrow (rows : Arena) : Type 0 where
  pub few : rows.words ≤ 4
  pub fit : (k : ℕ) → k < length rows.slots → IsWithinWords rows.words (slot_at rows k).position

-- each row has a note, the queues hold rows, and the positions can be read back
pub record IsFrontier (f : Frontier) : Type 0 where
  pub even : length f.notes.items ≡ length f.rows.slots
  pub queued : (c k : ℕ) → IsIn k (queue_at f.queues c) → k < length f.rows.slots
  pub narrow : AreNarrow f.rows

-- these steps from place k are tried
pub record HasTried (g : PebbleGame) (k : ℕ) (old new : Frontier) (was now : Best) (steps : List Step) : Type 0 where
  pub frontier : IsFrontier new
  pub tried : AreTried g k (store_of old) (best_of was) (store_of new) (best_of now) steps
  pub size : length new.rows.slots ≤ length old.rows.slots + length steps
  pub words : new.rows.words ≡ old.rows.words
  pub current : new.queues.current ≡ old.queues.current

-- of all legal steps from place k, which has this position and cost, those before the rest are tried, and there is room for the rest
pub record IsTrying (game : GameParts) (k : ℕ) (p : Position) (cost : ℕ) (old new : Frontier) (was now : Best) (rest : List Step) : Type 0 where
  pub steps : List Step
  pub all_are : legal_steps (game_of game) p ≡ steps ++ rest
  pub tried : HasTried (game_of game) k old new was now steps
  pub wide : length game.graph.nodes ≤ 64 * new.rows.words
  pub expanding : IsExpanding (store_of new) k
  pub position : (place_at new k).position ≡ p
  pub costs : (place_at new k).cost ≡ cost
  pub current : new.queues.current ≡ cost
  pub room : length new.rows.slots + length rest < 4294967295

-- all legal steps from place k are tried
pub record HasExpanded (g : PebbleGame) (k : ℕ) (old new : Frontier) (was now : Best) : Type 0 where
  pub frontier : IsFrontier new
  pub tried : AreTried g k (store_of old) (best_of was) (store_of new) (best_of now) (legal_steps g (place_at old k).position)
  pub size : length new.rows.slots ≤ length old.rows.slots + 384
  pub words : new.rows.words ≡ old.rows.words

-- the answer stands for what the search gives
abbrev pub IsSearched : PebbleGame → List Step → ℕ → Searched → Type 0
IsSearched g first budget s = IsDone g first budget (store_of s.frontier) (best_of s.best)

-- so many turns are done
pub record IsSearching (game : GameParts) (first : List Step) (budget turns : ℕ) (f : Frontier) (b : Best) : Type 0 where
  pub frontier : IsFrontier f
  pub wide : length game.graph.nodes ≤ 64 * f.rows.words
  pub size : length f.rows.slots ≤ 1 + turns * 384
  pub under_way : IsUnderWay (game_of game) first budget turns (store_of f) (best_of b)

-- the state stands for some search
pub record IsPacked (s : packing.Store) : Type 0 where
  pub g : PebbleGame
  pub first : List Step
  pub best : packing.Best
  pub plays : ℕ → List Step
  pub search : search.Search
  pub packs : packing.Packs g first s best plays search

-- the state stands for this search, whose plan finishes and costs no more than the first one
pub record HasEnded (g : PebbleGame) (first : List Step) (s : packing.Store) (b : packing.Best) (t : search.Search) : Type 0 where
  pub plays : ℕ → List Step
  pub packs : packing.Packs g first s b plays t
  pub finishing : IsFinishing g (start g) t.plan
  pub no_more : total_cost g (start g) t.plan ≤ total_cost g (start g) first

-- in each search that the state stands for, this is the play of place k
abbrev pub IsPlayOf : packing.Store → ℕ → List Step → Type 0
IsPlayOf s k steps = (g : PebbleGame) (first : List Step) (best : packing.Best) (plays : ℕ → List Step) (t : search.Search) → packing.Packs g first s best plays t → steps ≡ plays k

-- with the steps so far, last first, after the play of place `at` that is the play of place k
abbrev pub IsPlayedFrom : packing.Store → ℕ → ℕ → ℕ → List Step → Type 0
IsPlayedFrom s k at turns steps = (g : PebbleGame) (first : List Step) (best : packing.Best) (plays : ℕ → List Step) (t : search.Search) → packing.Packs g first s best plays t
    → (plays k ≡ plays at ++ reverse steps) × (length (plays at) + turns ≡ length (plays k))

-- the rows among the places below n
abbrev pub rows_below : packing.Store → ℕ → List Row
rows_below s zero = []
rows_below s (suc k) = rows_below s k ++ cond (search.is_expanded (s.at k).mark) (record { position = (s.at k).position; cost = (s.at k).cost } ∷ []) []

-- no position stands at two places of the list
abbrev pub StandApart : List Row → Type 0
StandApart rows = (a b : ℕ) (d : Row) → a < length rows → b < length rows → (slice_index_or rows a d).position ≡ (slice_index_or rows b d).position → a ≡ b
