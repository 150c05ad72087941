-- That no take was tried in vain, and what takes leave of the input (this project's convention).
use Rattle.std.specs.Prelude.{◌≡◌, ℕ, List, Option}
use Rattle.std.specs.Io.KnownBytes.{prepend_known}
use Rattle.desk_io.specs.declared.desk.Kind.{Kind}
use Rattle.desk_io.specs.declared.desk.Kind.TheVariants.{TakeInput, TakeFile}

-- the counts of the calls that read stay as they were, so none of them was tried in vain
pub record SameTakeFaults (before now : Kind → ℕ) : Type 0 where
  pub input : now TakeInput ≡ before TakeInput
  pub file : now TakeFile ≡ before TakeFile

-- what was taken of the input stood at its front, and the rest is left
abbrev pub LeavesRest : Option (List ℕ) → Option (List ℕ) → Type 0
LeavesRest before now = (taken : List ℕ) × (before ≡ prepend_known taken now)
