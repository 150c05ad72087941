-- The faults of names, and their codes (this project's convention).
use Rattle.std.specs.Prelude.{ℕ, Bool, if◌then◌else◌, List, [], ◌∷◌}
use Rattle.kernel_parser.specs.declared.names.fault.NameRule.{NameRule}
use Rattle.kernel_parser.specs.declared.names.fault.NameRule.TheVariants.{Unknown, Twice, Indices, NotWritable, BadSize}

-- the code of a fault
abbrev pub code_of : NameRule → ℕ
code_of Unknown = 4
code_of Twice = 5
code_of Indices = 6
code_of NotWritable = 9
code_of BadSize = 16

-- a fault by its code and its place in the text
pub record NameFault : Type 0 where
  pub code : ℕ
  pub at : ℕ

-- this fault at a place
abbrev pub fault : NameRule → ℕ → NameFault
fault f at = record { code = code_of f; at = at }

-- this fault at a place, where the test fails
abbrev pub unless : Bool → NameRule → ℕ → List NameFault
unless test f at = if test then [] else fault f at ∷ []
