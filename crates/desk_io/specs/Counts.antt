-- When a call of a desk is Failed, by the counts of its faults. All of it is this project's convention.
use Rattle.std.specs.Prelude.{◌≡◌, ℕ, ◌+◌, ◌-◌, ◌^◌, ◌<◌, ◌≤◌, Bool, List, min, slice_index, slice_set}
use Rattle.std.specs.Bool.{MatchBool}
use Rattle.desk_io.specs.declared.desk.Kind.{Kind}
use Rattle.desk_io.specs.declared.desk.Kind.TheVariants.{TakeInput, TakeFile, PutOutput, PutFile, ClearFile}

-- a count rose, or stands at the last value of its counter
abbrev pub Rose : ℕ → ℕ → Type 0
Rose before now = min (before + 1) (2 ^ 64 - 1) ≤ now

-- a call failed exactly where the count of its own kind rose, and the counts of the other kinds stay
pub record Counts (kind : Kind) (before now : Kind → ℕ) (failed : Bool) : Type 0 where
  pub later : before kind ≤ now kind
  pub exact : MatchBool failed (Rose (before kind) (now kind)) ((now kind ≡ before kind) × (before kind < 2 ^ 64 - 1))
  pub others : (other : Kind) → (other ≡ kind → ⊥) → now other ≡ before other

-- the place of a kind in an array of counts
abbrev pub place_of : Kind → ℕ
place_of TakeInput = 0
place_of TakeFile = 1
place_of PutOutput = 2
place_of PutFile = 3
place_of ClearFile = 4

-- the count of a kind in an array of counts
abbrev pub count_of : List ℕ → Kind → ℕ
count_of counts kind = slice_index counts (place_of kind)

-- an array of counts with that of a kind raised by one, which stands still at the last value
abbrev pub raised : List ℕ → Kind → ℕ → List ℕ
raised counts kind last = slice_set counts (place_of kind) (min (count_of counts kind + 1) last)
