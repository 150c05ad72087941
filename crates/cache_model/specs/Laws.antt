-- The moves of the cache are a complete pebbling, and its lines fit the slots.
use Rattle.std.specs.Prelude.{◌≡◌, ℕ, ◌+◌, ◌*◌, ◌<◌, ◌≤◌, List, [], ◌∷◌, ⊤, length}
use Rattle.std.specs.FinSet as set
use Rattle.comp_graph.specs.Vertices.{Vertices, ◌∉◌, rising}
use Rattle.comp_graph.specs.Dags.{IsDag, live_of, degree}
use Rattle.comp_graph.specs.Games.{PebbleGame}
use Rattle.pebble_rules.specs.Rules.{start, IsComplete, cost}
use Rattle.pebble_rules.specs.Transfers.{loads, stores}
use Rattle.pebble_rules.specs.declared.moves.Move.{Move}
use Rattle.cache_model.specs.Caches.{Line, Cache, empty_cache, with_room, with_turns, whole_run}

-- with more slots than the degree, the moves of the cache are a complete pebbling
abbrev pub CachesArePebblings : Type 0
CachesArePebblings = (g : PebbleGame) → IsDag g.dag → degree g.dag < g.slots → IsComplete g (start g) (whole_run g).moves

-- moves cost a load's weight for each load, and a store's for each store
abbrev pub CostsAreCounted : Type 0
CostsAreCounted = (g : PebbleGame) (ms : List Move) → cost g ms ≡ g.load * loads ms + g.store * stores ms

-- the vertices of the lines
abbrev pub keys : List Line → Vertices
keys [] = set.empty
keys (l ∷ ls) = set.insert (keys ls) l.0

-- no vertex has two lines
abbrev pub AreApart : List Line → Type 0
AreApart [] = ⊤
AreApart (l ∷ ls) = (l.0 ∉ keys ls) × AreApart ls

-- the lines after the turns of the vertices below n
abbrev pub lines_after : PebbleGame → ℕ → List Line
lines_after g n = (with_turns g empty_cache (rising n (set.difference (live_of g.dag) g.dag.inputs))).lines

-- after each turn there are at most as many lines as slots, and no vertex has two
abbrev pub LinesFit : Type 0
LinesFit = (g : PebbleGame) → IsDag g.dag → degree g.dag < g.slots → (n : ℕ) → (length (lines_after g n) ≤ g.slots) × AreApart (lines_after g n)

-- nothing is evicted where there are fewer lines than slots
abbrev pub RoomIsKept : Type 0
RoomIsKept = (slots : ℕ) (c : Cache) → length c.lines < slots → with_room slots c ≡ c

-- where there are as many lines as slots, one goes
abbrev pub RoomIsMade : Type 0
RoomIsMade = (slots : ℕ) (c : Cache) → 0 < slots → length c.lines ≡ slots → length (with_room slots c).lines + 1 ≡ slots
