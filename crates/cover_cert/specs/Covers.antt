-- When one position covers another, this project's own. If the covered one has no more red vertices than there are slots, each play that
-- finishes from it has a play that finishes from the covering one at no greater cost. Dead vertices do not matter.
use Rattle.std.specs.Prelude.{◌≡◌, ℕ, ◌↔◌, Bool, true, ◌&&◌}
use Rattle.std.specs.FinSet as set
use Rattle.comp_graph.specs.Vertices.{◌∈◌, IsWithin}
use Rattle.comp_graph.specs.Dags.{IsDag, is_live, live_of}
use Rattle.comp_graph.specs.Games.{PebbleGame}
use Rattle.pebble_rules.specs.declared.position.Position.{Position}
use Rattle.normal_steps.specs.StepTests.{is_within}

-- p covers q: each live vertex has in p the pebbles that it has in q
pub record Covers (g : PebbleGame) (p q : Position) : Type 0 where
  pub red : (v : ℕ) → is_live g.dag v ≡ true → v ∈ q.red → v ∈ p.red
  pub blue : (v : ℕ) → is_live g.dag v ≡ true → v ∈ q.blue → v ∈ p.blue

-- the same as a test
unfoldable pub is_covered_by : PebbleGame → Position → Position → Bool
is_covered_by g p q =
    is_within (set.intersection q.red (live_of g.dag)) p.red && is_within (set.intersection q.blue (live_of g.dag)) p.blue

-- the test says whether p covers q
abbrev pub CoversIsTested : Type 0
CoversIsTested = (g : PebbleGame) → IsDag g.dag → (p q : Position) → (is_covered_by g p q ≡ true) ↔ Covers g p q

-- the live pebbles of a position
abbrev pub live_part : PebbleGame → Position → Position
live_part g q = record { red = set.intersection q.red (live_of g.dag); blue = set.intersection q.blue (live_of g.dag) }

-- p has each pebble of q
pub record HasPebbles (p q : Position) : Type 0 where
  pub red : IsWithin q.red p.red
  pub blue : IsWithin q.blue p.blue
