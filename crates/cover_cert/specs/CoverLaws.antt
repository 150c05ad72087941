-- The laws of covered tables.
use Rattle.std.specs.Prelude.{◌≡◌, ℕ, ◌+◌, ◌≤◌, List, map}
use Rattle.comp_graph.specs.Vertices.{size}
use Rattle.comp_graph.specs.Dags.{IsDag}
use Rattle.comp_graph.specs.Games.{PebbleGame}
use Rattle.pebble_rules.specs.Rules.{start, IsComplete, cost}
use Rattle.pebble_rules.specs.declared.moves.Move.{Move}
use Rattle.pebble_rules.specs.declared.position.Position.{Position}
use Rattle.normal_steps.specs.Simulation.{FinishesWithin}
use Rattle.normal_steps.specs.Steps.{IsFinishing, total_cost, work_vertices}
use Rattle.normal_steps.specs.declared.step.Step.{Step}
use Rattle.comp_graph.specs.Lists.{IsIn}
use Rattle.potential_cert.specs.declared.tables.Row.{Row}
use Rattle.potential_cert.specs.Table.{IsValid, IsRising}
use Rattle.potential_cert.specs.Order.{precedes}
use Rattle.cover_cert.specs.Covers.{Covers}
use Rattle.cover_cert.specs.CoverTable.{CoverRowParts, without_names, IsCoverTable, IsCoverSupport}

-- where p covers q, and q has no more red vertices than slots, each play that finishes from q has one that finishes from p at no greater cost;
-- its Work steps are among those of the play from q, in the same order
abbrev pub CoveringCostsNoMore : Type 0
CoveringCostsNoMore =
    (g : PebbleGame) → IsDag g.dag → (p q : Position) → Covers g p q → size q.red ≤ g.slots
    → (ss : List Step) → IsFinishing g q ss → FinishesWithin g p (total_cost g q ss) (work_vertices ss)

-- from each row of a covered table no play finishes at less than what is left of the bound
abbrev pub CoverBoundIsBelowPlays : Type 0
CoverBoundIsBelowPlays =
    (g : PebbleGame) → IsDag g.dag → (rows : List CoverRowParts) (bound : ℕ) → IsCoverTable g rows bound
    → (r : CoverRowParts) → IsIn r rows → (ss : List Step) → IsFinishing g r.position ss → bound ≤ r.cost + total_cost g r.position ss

-- the bound of a covered table is at most the cost of each complete pebbling
abbrev pub CoverBoundIsBelowPebblings : Type 0
CoverBoundIsBelowPebblings =
    (g : PebbleGame) → IsDag g.dag → (rows : List CoverRowParts) (bound : ℕ) → IsCoverTable g rows bound
    → (ms : List Move) → IsComplete g (start g) ms → bound ≤ cost g ms

-- rows with names and a cost have at most one support
abbrev pub CoverSupportIsOne : Type 0
CoverSupportIsOne =
    (g : PebbleGame) (rows : List CoverRowParts) (cost a b : ℕ) → IsCoverSupport g rows cost a → IsCoverSupport g rows cost b → a ≡ b

-- a valid table whose rows rise is a covered table without names
abbrev pub PlainTablesAreCoverTables : Type 0
PlainTablesAreCoverTables =
    (g : PebbleGame) → IsDag g.dag → (rows : List Row) (bound : ℕ) → IsRising precedes rows → IsValid g rows bound
    → IsCoverTable g (map without_names rows) bound
