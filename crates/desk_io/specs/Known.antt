-- What calls do to the input, the file and the output of a desk, where the desk tells them. `None` is not told.
-- All of it is this project's convention.
use Rattle.std.specs.Prelude.{◌≡◌, ℕ, ◌<◌, ◌≤◌, List, [], ◌++◌, length, take, drop, ⊤, None, Some, Vec}
use Rattle.std.specs.declared.alloc.Global.{Global}
use Rattle.std.specs.declared.option.Option.{Option}
use Rattle.std.specs.Option.{option_map}
use Rattle.std.specs.Io.KnownBytes.{prepend_known, IsAtEnd}

-- What a desk tells of its file: `None` if it tells nothing, `Some None` if there is no file, and `Some (Some bytes)` if the file is there with
-- these bytes.
abbrev pub ToldFile : Type 0
ToldFile = Option (Option (List ℕ))

-- the bytes that a file holds, none where it is missing
abbrev pub held_bytes : Option (List ℕ) → List ℕ
held_bytes None = []
held_bytes (Some bytes) = bytes

-- the bytes of a file in memory
abbrev pub file_items : Option (Vec ℕ Global) → Option (List ℕ)
file_items None = None
file_items (Some bytes) = Some bytes.items

-- the file with more bytes after those that it holds
abbrev pub file_and : ToldFile → List ℕ → ToldFile
file_and file bytes = option_map (λ held. Some (held_bytes held ++ bytes)) file

-- a file that is there and holds these bytes
abbrev pub file_of : ToldFile → List ℕ → ToldFile
file_of file bytes = option_map (λ _. Some bytes) file

-- the input at its end
abbrev pub input_end : Option (List ℕ) → Option (List ℕ)
input_end input = option_map (λ _. []) input

-- the first bytes of a buffer are the next of the input, and none come only at its end
pub record TakesInput (before now : Option (List ℕ)) (count : ℕ) (buffer : List ℕ) : Type 0 where
  pub taken : before ≡ prepend_known (take count buffer) now
  pub ends : count ≡ 0 → 0 < length buffer → IsAtEnd now

-- the first bytes of a buffer are those of the file from a place on, and none come only past its end
abbrev pub TakesFile : ToldFile → ℕ → ℕ → List ℕ → Type 0
TakesFile None from count buffer = ⊤
TakesFile (Some None) from count buffer = ⊥
TakesFile (Some (Some bytes)) from count buffer =
    (take count buffer ≡ take count (drop from bytes)) × (count ≡ 0 → 0 < length buffer → length bytes ≤ from)

-- the desk's bytes are these, if it tells them
abbrev pub Tells : Option (List ℕ) → List ℕ → Type 0
Tells None bytes = ⊤
Tells (Some known) bytes = known ≡ bytes

-- the desk has more bytes than a limit, if it tells them
abbrev pub TellsMore : Option (List ℕ) → ℕ → Type 0
TellsMore None limit = ⊤
TellsMore (Some known) limit = limit < length known

-- the input lost at most so many bytes at its front
abbrev pub TookAtMost : Option (List ℕ) → Option (List ℕ) → ℕ → Type 0
TookAtMost before now limit = (taken : List ℕ) × (length taken ≤ limit) × (before ≡ prepend_known taken now)

-- the input lost more than so many bytes at its front
abbrev pub TookMore : Option (List ℕ) → Option (List ℕ) → ℕ → Type 0
TookMore before now limit = (taken : List ℕ) × (limit < length taken) × (before ≡ prepend_known taken now)

-- the desk's file is there with these bytes, if the desk tells it
abbrev pub TellsFile : ToldFile → List ℕ → Type 0
TellsFile None bytes = ⊤
TellsFile (Some None) bytes = ⊥
TellsFile (Some (Some known)) bytes = known ≡ bytes

-- the desk's file is there with more bytes than a limit, if the desk tells it
abbrev pub TellsMoreFile : ToldFile → ℕ → Type 0
TellsMoreFile None limit = ⊤
TellsMoreFile (Some None) limit = ⊥
TellsMoreFile (Some (Some known)) limit = limit < length known
