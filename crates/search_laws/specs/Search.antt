-- The search for a cheaper plan, over one list of positions with their plays.
use Rattle.std.specs.Prelude.{ℕ, zero, suc, ◌+◌, Bool, true, false, cond, not, ◌&&◌, ◌||◌, ltb, leb, List, [], ◌∷◌, ◌++◌, map, filter, fold, length, Option, Some, None}
use Rattle.std.specs.List.{list_any}
use Rattle.comp_graph.specs.Games.{PebbleGame}
use Rattle.pebble_rules.specs.declared.position.Position.{Position}
use Rattle.pebble_rules.specs.Rules.{start}
use Rattle.normal_steps.specs.Steps.{stepped, step_cost, finish_cost, total_cost}
use Rattle.normal_steps.specs.declared.step.Step.{Step}
use Rattle.forced_bounds.specs.Floor.{floor}
use Rattle.potential_cert.specs.declared.tables.Row.{Row}
use Rattle.normal_steps.specs.StepTests.{can_finish, legal_steps}
use Rattle.search_laws.specs.Steps.{same_position}

-- what became of an entry: it waits, it was expanded and is a row, or it was given up since no play through it can beat the plan
pub data Mark : Type 0 where
  waiting : Mark
  expanded : Mark
  given_up : Mark

-- the entry waits
abbrev pub is_waiting : Mark → Bool
is_waiting waiting = true
is_waiting expanded = false
is_waiting given_up = false

-- the entry was expanded: it is a row
abbrev pub is_expanded : Mark → Bool
is_expanded waiting = false
is_expanded expanded = true
is_expanded given_up = false

-- a position, the cost at which the play leads to it, the play, and its mark
pub record Entry : Type 0 where
  pub position : Position
  pub cost : ℕ
  pub play : List Step
  pub mark : Mark

-- the best plan so far with its cost, and the entries in the order in which the positions got their costs
pub record Search : Type 0 where
  pub plan : List Step
  pub cost : ℕ
  pub entries : List Entry

-- the start, which costs nothing and waits
abbrev pub first_entry : PebbleGame → Entry
first_entry g = record { position = start g; cost = 0; play = []; mark = waiting }

-- the search before its first turn: the first plan, and the start where a play from it may cost less
unfoldable pub begun : PebbleGame → List Step → Search
begun g plan = record {
  plan = plan;
  cost = total_cost g (start g) plan;
  entries = cond (ltb (floor g (start g)) (total_cost g (start g) plan)) (first_entry g ∷ []) [];
}

-- the one of least cost, and of equal ones the first
abbrev pub sooner : Entry → Option Entry → Entry
sooner e None = e
sooner e (Some f) = cond (ltb f.cost e.cost) f e

-- of the waiting entries of least cost the one that stands first
abbrev pub next_waiting : List Entry → Option Entry
next_waiting [] = None
next_waiting (e ∷ es) = cond (is_waiting e.mark) (Some (sooner e (next_waiting es))) (next_waiting es)

-- the entries, with this mark at the position
abbrev pub marked_at : Mark → Position → List Entry → List Entry
marked_at m p es = map (λ e. cond (same_position e.position p) (record e { mark = m }) e) es

-- the position has an entry of at most this cost
abbrev pub has_within : List Entry → Position → ℕ → Bool
has_within es q h = list_any (λ e. same_position e.position q && leb e.cost h) es

-- the entries of other positions
abbrev pub without : List Entry → Position → List Entry
without es q = filter (λ e. not (same_position e.position q)) es

-- what the search makes of a step from an entry's position that leads to q at cost h
unfoldable pub tried : PebbleGame → List Step → Position → ℕ → Search → Search
tried g play q h t =
    cond (leb t.cost (h + floor g q) || has_within t.entries q h) t
    (cond (can_finish g q)
    (record { plan = play; cost = h + finish_cost g q; entries = t.entries })
    (record { plan = t.plan; cost = t.cost; entries = without t.entries q ++ record { position = q; cost = h; play = play; mark = waiting } ∷ [] }))

-- what the search makes of a step from an entry's position
abbrev pub step_tried : PebbleGame → Entry → Search → Step → Search
step_tried g e t s = tried g (e.play ++ s ∷ []) (stepped g e.position s) (e.cost + step_cost g e.position s) t

-- the entry becomes a row
abbrev pub becomes_row : Entry → Search → Search
becomes_row e t = record { plan = t.plan; cost = t.cost; entries = marked_at expanded e.position t.entries }

-- the entry becomes a row, and each legal step from it is tried in order
unfoldable pub expand : PebbleGame → Entry → Search → Search
expand g e t = fold (step_tried g e) (becomes_row e t) (legal_steps g e.position)

-- no play through the entry can beat the plan
abbrev pub is_beaten : PebbleGame → Search → Entry → Bool
is_beaten g t e = leb t.cost (e.cost + floor g e.position)

-- the entry is given up
abbrev pub give_up : Entry → Search → Search
give_up e t = record { plan = t.plan; cost = t.cost; entries = marked_at given_up e.position t.entries }

-- what is made of the next entry, or of there being none
abbrev pub if_next : {X : Type 0} → Option Entry → X → (Entry → X) → X
if_next None x f = x
if_next (Some e) x f = f e

-- entries are given up as long as the next one is beaten, at most n of them
unfoldable pub settle : PebbleGame → ℕ → Search → Search
settle g zero t = t
settle g (suc n) t = if_next (next_waiting t.entries) t (λ e. cond (is_beaten g t e) (settle g n (give_up e t)) t)

-- until so many rows are made or no entry waits: beaten entries are given up, and the next one is expanded
unfoldable pub search_on : PebbleGame → ℕ → Search → Search
search_on g zero t = t
search_on g (suc budget) t =
    if_next (next_waiting (settle g (length t.entries) t).entries) (settle g (length t.entries) t)
    (λ e. search_on g budget (expand g e (settle g (length t.entries) t)))

-- The search for a cheaper plan than this one, with this budget of rows: from the first plan and the start, turn by turn. It is the
-- definition that the planner's rows, costs and plan are measured by. The law `search_goes_by_turns` ties it to the rules as docs/PLAN.md
-- tells them: no turn without budget or without a waiting entry, a beaten entry is given up, and else the next entry is expanded.
abbrev pub searched : PebbleGame → List Step → ℕ → Search
searched g plan budget = search_on g budget (begun g plan)

-- the expanded entries, as rows
abbrev pub rows_of : List Entry → List Row
rows_of [] = []
rows_of (e ∷ es) = cond (is_expanded e.mark) (record { position = e.position; cost = e.cost } ∷ rows_of es) (rows_of es)

-- the rows that the search leaves, in the order in which their positions got their costs
abbrev pub rows_searched : PebbleGame → List Step → ℕ → List Row
rows_searched g plan budget = rows_of (searched g plan budget).entries
