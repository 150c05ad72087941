-- The support of rows with names and a cost, as a function.
use Rattle.std.specs.Prelude.{ℕ, suc, min, Bool, cond, not, ◌&&◌, nat_eq, List, [], ◌∷◌, flat_map}
use Rattle.std.specs.List.{list_any}
use Rattle.comp_graph.specs.Games.{PebbleGame}
use Rattle.pebble_rules.specs.Rules.{start}
use Rattle.pebble_rules.specs.declared.position.Position.{Position}
use Rattle.normal_steps.specs.Steps.{stepped}
use Rattle.normal_steps.specs.StepTests.{legal_steps}
use Rattle.normal_steps.specs.declared.step.Step.{Step}
use Rattle.forced_bounds.specs.Floor.{floor}
use Rattle.potential_cert.specs.declared.tables.Row.{Row}
use Rattle.potential_cert.specs.Table.{offer}
use Rattle.search_laws.specs.Steps.{same_position}
use Rattle.cover_cert.specs.declared.tables.Cover.{Cover}
use Rattle.cover_cert.specs.CoverTable.{CoverRowParts, plain, plain_rows, IsCoverSupport}

-- the step at this place has a name
abbrev pub is_named_at : List Cover → ℕ → Bool
is_named_at names k = list_any (λ n. nat_eq n.step k) names

-- the position is no row
abbrev pub is_no_row_of : List Row → Position → Bool
is_no_row_of rows q = not (list_any (λ r. same_position r.position q) rows)

-- what the steps offer that have no name and lead to no row; the first of them stands at place k
abbrev pub unnamed_offers : PebbleGame → List CoverRowParts → CoverRowParts → ℕ → List Step → List ℕ
unnamed_offers g rows r k [] = []
unnamed_offers g rows r k (s ∷ ss) =
    cond (not (is_named_at r.names k) && is_no_row_of (plain_rows rows) (stepped g r.position s))
    (offer g (plain r) s ∷ unnamed_offers g rows r (suc k) ss)
    (unnamed_offers g rows r (suc k) ss)

abbrev pub least_of : ℕ → List ℕ → ℕ
least_of n [] = n
least_of n (m ∷ ms) = min m (least_of n ms)

-- the cost, and with no row the lesser of it and the floor of the start
abbrev pub least_without_offers : PebbleGame → List CoverRowParts → ℕ → ℕ
least_without_offers g [] cost = min cost (floor g (start g))
least_without_offers g (r ∷ rs) cost = cost

unfoldable pub cover_support : PebbleGame → List CoverRowParts → ℕ → ℕ
cover_support g rows cost = least_of (least_without_offers g rows cost) (flat_map (λ r. unnamed_offers g rows r 0 (legal_steps g r.position)) rows)

-- rows with names and a cost have a support
abbrev pub CoverSupportIsFound : Type 0
CoverSupportIsFound = (g : PebbleGame) (rows : List CoverRowParts) (cost : ℕ) → IsCoverSupport g rows cost (cover_support g rows cost)
