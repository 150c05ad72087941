-- What a search keeps from turn to turn, and its next entry.
use Rattle.std.specs.Prelude.{◌≡◌, true, false, ⊤, ◌⊎◌, ℕ, ◌+◌, ◌≤◌, List, [], ◌∷◌}
use Rattle.comp_graph.specs.Games.{PebbleGame}
use Rattle.pebble_rules.specs.declared.position.Position.{Position}
use Rattle.pebble_rules.specs.Rules.{start}
use Rattle.normal_steps.specs.Steps.{IsStep, stepped, step_cost, IsPlay, play_after, play_cost, CanFinish, IsFinishing, total_cost}
use Rattle.normal_steps.specs.declared.step.Step.{Step}
use Rattle.comp_graph.specs.Lists.{IsIn}
use Rattle.forced_bounds.specs.Floor.{floor}
use Rattle.potential_cert.specs.declared.tables.Row.{Row}
use Rattle.potential_cert.specs.Table.{offer}
use Rattle.search_laws.specs.Search.{is_waiting, is_expanded, Entry, Search, rows_of}

-- no two entries have one position
abbrev pub AreApart : List Entry → Type 0
AreApart [] = ⊤
AreApart (e ∷ es) = ((f : Entry) → IsIn f es → f.position ≡ e.position → ⊥) × AreApart es

-- an entry's position and cost, as a row
abbrev pub row_of : Entry → Row
row_of e = record { position = e.position; cost = e.cost }

-- the entry waits, and no entry that waits costs less
pub record IsNext (es : List Entry) (e : Entry) : Type 0 where
  pub member : IsIn e es
  pub waits : is_waiting e.mark ≡ true
  pub least : (f : Entry) → IsIn f es → is_waiting f.mark ≡ true → e.cost ≤ f.cost

-- the play leads from the start to the position at the cost
pub record IsReachedBy (g : PebbleGame) (p : Position) (c : ℕ) (ss : List Step) : Type 0 where
  pub play : IsPlay g (start g) ss
  pub ends : play_after g (start g) ss ≡ p
  pub costs : play_cost g (start g) ss ≡ c

-- the position has an entry of at most this cost
abbrev pub HasEntryWithin : List Entry → Position → ℕ → Type 0
HasEntryWithin es q h = (e : Entry) × IsIn e es × (e.position ≡ q) × (e.cost ≤ h)

-- no play through a step from the row beats the plan, or the step leads to an entry that costs no more
abbrev pub IsSettled : PebbleGame → Search → Row → Step → Type 0
IsSettled g t r s = (t.cost ≤ offer g r s) ⊎ HasEntryWithin t.entries (stepped g r.position s) (r.cost + step_cost g r.position s)

-- the start, at no cost
abbrev pub start_row : PebbleGame → Row
start_row g = record { position = start g; cost = 0 }

-- before the first row: each entry is the start's, and there is one where the plan can be beaten
pub record IsFresh (g : PebbleGame) (t : Search) : Type 0 where
  pub no_rows : rows_of t.entries ≡ []
  pub starts : (e : Entry) → IsIn e t.entries → row_of e ≡ start_row g
  pub some : (t.cost ≤ floor g (start g)) ⊎ ((e : Entry) × IsIn e t.entries)

-- What holds of a search at each turn: its plan finishes at its cost, which is no more than the first plan's; its entries are played,
-- unfinished and apart; those given up cannot beat the plan; and each row costs no more than what waits.
pub record IsKept (g : PebbleGame) (first : ℕ) (t : Search) : Type 0 where
  pub finishing : IsFinishing g (start g) t.plan
  pub costs : total_cost g (start g) t.plan ≡ t.cost
  pub no_more : t.cost ≤ first
  pub played : (e : Entry) → IsIn e t.entries → IsReachedBy g e.position e.cost e.play
  pub unfinished : (e : Entry) → IsIn e t.entries → CanFinish g e.position → ⊥
  pub apart : AreApart t.entries
  pub beaten : (e : Entry) → IsIn e t.entries → is_waiting e.mark ≡ false → is_expanded e.mark ≡ false → t.cost ≤ e.cost + floor g e.position
  pub order : (e : Entry) → IsIn e t.entries → is_waiting e.mark ≡ true → (r : Row) → IsIn r (rows_of t.entries) → r.cost ≤ e.cost
  pub begins : IsIn (start_row g) (rows_of t.entries) ⊎ IsFresh g t

-- what a search keeps, and that each step from a row is settled
pub record Stands (g : PebbleGame) (first : ℕ) (t : Search) : Type 0 where
  pub kept : IsKept g first t
  pub settled : (r : Row) → IsIn r (rows_of t.entries) → (s : Step) → IsStep g r.position s → IsSettled g t r s
