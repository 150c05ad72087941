-- What the packed state does in a turn.
use Rattle.std.specs.Prelude.{◌≡◌, ℕ, suc, ◌≤◌, ◌<◌, ◌+◌, ◌-◌, Bool, true, false, List, [], ◌∷◌, ◌++◌, filter, fold, length, Option, Some, None}
use Rattle.comp_graph.specs.Games.{PebbleGame}
use Rattle.comp_graph.specs.Dags.{IsDag}
use Rattle.pebble_rules.specs.declared.position.Position.{Position}
use Rattle.pebble_rules.specs.Rules.{start}
use Rattle.normal_steps.specs.declared.step.Step.{Step}
use Rattle.normal_steps.specs.StepTests.{is_step}
use Rattle.search_laws.specs.Search.{waiting, is_expanded, Entry, Search, next_waiting, step_tried, becomes_row, settle, search_on, searched}
use Rattle.search_laws.specs.Standing.{IsKept, IsNext, Stands}
use Rattle.normal_steps.specs.Steps.{total_cost}
use Rattle.search_laws.specs.Packing.{Store, Place, Best, entry_at, Packs}

-- the place is a row, and no row costs more
pub record IsExpanding (s : Store) (k : ℕ) : Type 0 where
  pub within : k < s.size
  pub is_row : is_expanded (s.at k).mark ≡ true
  pub rows_below : (j : ℕ) → j < s.size → is_expanded (s.at j).mark ≡ true → (s.at j).cost ≤ (s.at k).cost

-- these steps from place k are tried: of all searches that the first state stands for, the second one stands for what they become
pub record AreTried (g : PebbleGame) (k : ℕ) (s : Store) (b : Best) (u : Store) (c : Best) (ss : List Step) : Type 0 where
  pub here : u.at k ≡ s.at k
  pub grows : s.size ≤ u.size
  pub rows : (j : ℕ) → j < u.size → is_expanded (u.at j).mark ≡ true → (j < s.size) × (u.at j ≡ s.at j)
  pub still : (j : ℕ) → j < s.size → is_expanded (s.at j).mark ≡ true → u.at j ≡ s.at j
  pub lower : c.cost ≤ b.cost
  pub goes : (first : List Step) (plays : ℕ → List Step) (t : Search) → Packs g first s b plays t
      → (after : ℕ → List Step) × (after k ≡ plays k) × Packs g first u c after (fold (step_tried g (entry_at s plays k)) t ss)

-- the entry of a place before it became a row: as it waited
abbrev pub next_entry : Store → (ℕ → List Step) → ℕ → Entry
next_entry s plays k = record (entry_at s plays k) { mark = waiting }

-- the entries of a search that are beaten are given up, until the next one is not
abbrev pub settled_of : PebbleGame → Search → Search
settled_of g t = settle g (length t.entries) t

-- once some entries of the search t are given up it is this one, for which the state stands
pub record IsContinued (g : PebbleGame) (most : ℕ) (first : List Step) (plays : ℕ → List Step) (u : Store) (b : Best) (t : Search) : Type 0 where
  pub search : Search
  pub packs : Packs g first u b plays search
  pub kept : IsKept g most search
  pub settles : settled_of g t ≡ settled_of g search

-- so goes on each search that the first state stands for
abbrev pub Continues : Store → Store → Best → Type 0
Continues s u b = (g : PebbleGame) → IsDag g.dag → (most : ℕ) (first : List Step) (plays : ℕ → List Step) (t : Search) → Packs g first s b plays t → IsKept g most t → IsContinued g most first plays u b t

-- once the beaten entries of the search t are given up it is this one, whose next entry is that of place k, which is now a row
pub record HasNext (g : PebbleGame) (most : ℕ) (first : List Step) (plays : ℕ → List Step) (u : Store) (b : Best) (t : Search) (k : ℕ) : Type 0 where
  pub within : k < u.size
  pub is_row : is_expanded (u.at k).mark ≡ true
  pub search : Search
  pub packs : Packs g first u b plays (becomes_row (next_entry u plays k) search)
  pub kept : IsKept g most search
  pub settles : settled_of g t ≡ search
  pub next : IsNext search.entries (next_entry u plays k)
  pub is_next : next_waiting search.entries ≡ Some (next_entry u plays k)

-- so each search that the first state stands for finds its next row
abbrev pub FindsNext : Store → Store → Best → ℕ → Type 0
FindsNext s u b k = (g : PebbleGame) → IsDag g.dag → (most : ℕ) (first : List Step) (plays : ℕ → List Step) (t : Search) → Packs g first s b plays t → IsKept g most t → HasNext g most first plays u b t k

-- once the beaten entries of the search t are given up it is this one, in which no entry waits
pub record HasStopped (g : PebbleGame) (most : ℕ) (first : List Step) (plays : ℕ → List Step) (u : Store) (b : Best) (t : Search) : Type 0 where
  pub search : Search
  pub packs : Packs g first u b plays search
  pub kept : IsKept g most search
  pub settles : settled_of g t ≡ search
  pub none_waits : next_waiting search.entries ≡ None

-- so ends each search that the first state stands for
abbrev pub Stops : Store → Store → Best → Type 0
Stops s u b = (g : PebbleGame) → IsDag g.dag → (most : ℕ) (first : List Step) (plays : ℕ → List Step) (t : Search) → Packs g first s b plays t → IsKept g most t → HasStopped g most first plays u b t

-- so many turns are done: what is left of the search t gives what the whole search gives
pub record IsUnderWay (g : PebbleGame) (first : List Step) (budget turns : ℕ) (s : Store) (b : Best) : Type 0 where
  pub plays : ℕ → List Step
  pub search : Search
  pub packs : Packs g first s b plays search
  pub stands : Stands g (total_cost g (start g) first) search
  pub goes : search_on g (budget - turns) search ≡ searched g first budget

-- the state stands for what the whole search gives
pub record IsDone (g : PebbleGame) (first : List Step) (budget : ℕ) (s : Store) (b : Best) : Type 0 where
  pub plays : ℕ → List Step
  pub packs : Packs g first s b plays (searched g first budget)
