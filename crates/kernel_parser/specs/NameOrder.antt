-- The order of the faults of names (this project's convention): that of their places, and at one name unknown stands before not writable,
-- and that before indices.
use Rattle.std.specs.Prelude.{◌≡◌, ◌<◌, ◌⊎◌, ◌==◌, ℕ, if◌then◌else◌, List, [], ◌∷◌}
use Rattle.kernel_parser.specs.declared.names.fault.NameRule.TheVariants.{Unknown, NotWritable}
use Rattle.kernel_parser.specs.NameFaults.{NameFault, code_of}

-- which of the faults at one name stands first, by their codes
abbrev pub rank_at_name : ℕ → ℕ
rank_at_name code = if code == code_of Unknown then 0 else (if code == code_of NotWritable then 1 else 2)

-- a fault stands before another
abbrev pub StandsBefore : NameFault → NameFault → Type 0
StandsBefore f g = (f.at < g.at) ⊎ ((f.at ≡ g.at) × (rank_at_name f.code < rank_at_name g.code))

-- it stands before each of these
abbrev pub StandsBeforeAll : NameFault → List NameFault → Type 0
StandsBeforeAll f [] = Unit {0}
StandsBeforeAll f (g ∷ more) = StandsBefore f g × StandsBeforeAll f more

-- each fault stands before all that follow it
abbrev pub AreInOrder : List NameFault → Type 0
AreInOrder [] = Unit {0}
AreInOrder (f ∷ more) = StandsBeforeAll f more × AreInOrder more
