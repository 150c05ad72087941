-- The search for a cheaper plan that names covering rows, over one list of positions with their plays: branch and bound, but a Work or a
-- Spill to a position that a row covers at no greater cost gets a name in place of being tried.
use Rattle.std.specs.Prelude.{ℕ, zero, suc, ◌+◌, Bool, cond, ◌&&◌, leb, List, [], ◌∷◌, ◌++◌, map, filter, length, Option, Some, None}
use Rattle.comp_graph.specs.Games.{PebbleGame}
use Rattle.pebble_rules.specs.declared.position.Position.{Position}
use Rattle.normal_steps.specs.Steps.{stepped, step_cost}
use Rattle.normal_steps.specs.StepTests.{legal_steps}
use Rattle.normal_steps.specs.declared.step.Step.{Step}
use Rattle.normal_steps.specs.declared.step.Step.TheVariants.{Work, Drop, Spill}
use Rattle.potential_cert.specs.declared.tables.Row.{Row}
use Rattle.potential_cert.specs.Order.{precedes}
use Rattle.search_laws.specs.Steps.{same_position}
use Rattle.search_laws.specs.Search.{is_expanded, Entry, Search, begun, next_waiting, step_tried, becomes_row, if_next, settle, rows_of}
use Rattle.cover_cert.specs.Covers.{is_covered_by}
use Rattle.cover_cert.specs.CoverTable.{CoverRowParts}
use Rattle.cover_cert.specs.declared.tables.Cover.{Cover}

-- the step at a place of the row at `row` leads to a position that the row at `by` covers
pub record Naming : Type 0 where
  pub row : Position
  pub step : ℕ
  pub by : Position

-- the search as in branch and bound, and the names in the order in which they were given
pub record CoverSearch : Type 0 where
  pub search : Search
  pub names : List Naming

-- the entry is a row that costs at most h and covers q
abbrev pub is_covering : PebbleGame → Position → ℕ → Entry → Bool
is_covering g q h e = is_expanded e.mark && (leb e.cost h && is_covered_by g e.position q)

-- the entry whose position comes first in the order of positions
abbrev pub earlier : Entry → Option Entry → Entry
earlier e None = e
earlier e (Some f) = cond (precedes f.position e.position) f e

abbrev pub earliest : List Entry → Option Entry
earliest [] = None
earliest (e ∷ es) = Some (earlier e (earliest es))

-- of the rows that cover q and cost at most h the one whose position comes first
unfoldable pub covering : PebbleGame → Position → ℕ → List Entry → Option Entry
covering g q h es = earliest (filter (is_covering g q h) es)

-- the row that a step to q at cost h names: a Drop names none
abbrev pub row_named : PebbleGame → Step → Position → ℕ → List Entry → Option Entry
row_named g (Work v) q h es = covering g q h es
row_named g (Drop u) q h es = None
row_named g (Spill u) q h es = covering g q h es

-- the step at place k from an entry's position gets a name, or is tried as in branch and bound
unfoldable pub named_or_tried : PebbleGame → Entry → ℕ → Step → CoverSearch → CoverSearch
named_or_tried g e k s t =
    if_next (row_named g s (stepped g e.position s) (e.cost + step_cost g e.position s) t.search.entries)
    (record { search = step_tried g e t.search s; names = t.names })
    (λ f. record { search = t.search; names = t.names ++ record { row = e.position; step = k; by = f.position } ∷ [] })

-- so it is with each of these steps, the first of which stands at place k
abbrev pub all_named_or_tried : PebbleGame → Entry → ℕ → List Step → CoverSearch → CoverSearch
all_named_or_tried g e k [] t = t
all_named_or_tried g e k (s ∷ ss) t = all_named_or_tried g e (suc k) ss (named_or_tried g e k s t)

-- the entry becomes a row, and then its legal steps are gone through in order
unfoldable pub cover_expand : PebbleGame → Entry → CoverSearch → CoverSearch
cover_expand g e t = all_named_or_tried g e 0 (legal_steps g e.position) (record { search = becomes_row e t.search; names = t.names })

-- entries are given up as long as the next one is beaten
abbrev pub cover_settled : PebbleGame → CoverSearch → CoverSearch
cover_settled g t = record { search = settle g (length t.search.entries) t.search; names = t.names }

-- until so many rows are made or no entry waits: beaten entries are given up, and the next one is expanded
unfoldable pub cover_search_on : PebbleGame → ℕ → CoverSearch → CoverSearch
cover_search_on g zero t = t
cover_search_on g (suc budget) t =
    if_next (next_waiting (cover_settled g t).search.entries) (cover_settled g t) (λ e. cover_search_on g budget (cover_expand g e (cover_settled g t)))

abbrev pub cover_searched : PebbleGame → List Step → ℕ → CoverSearch
cover_searched g plan budget = cover_search_on g budget (record { search = begun g plan; names = [] })

-- the expanded entries, as rows without names
abbrev pub rows_covered : PebbleGame → List Step → ℕ → List Row
rows_covered g plan budget = rows_of (cover_searched g plan budget).search.entries

-- ---- the table of a search

-- the number of the row at a position
abbrev pub number_of : List Row → Position → ℕ
number_of [] p = 0
number_of (r ∷ rs) p = cond (same_position r.position p) 0 (suc (number_of rs p))

-- the names that steps from a position were given
abbrev pub namings_of : List Naming → Position → List Naming
namings_of names p = filter (λ n. same_position n.row p) names

abbrev pub numbered : List Row → Naming → Cover
numbered rows n = record { step = n.step; row = number_of rows n.by }

-- a row with its names, as numbers of rows
abbrev pub with_names : List Row → List Naming → Row → CoverRowParts
with_names rows names r = record { position = r.position; cost = r.cost; names = map (numbered rows) (namings_of names r.position) }

-- all rows with their names
abbrev pub cover_rows : List Row → List Naming → List CoverRowParts
cover_rows rows names = map (with_names rows names) rows
