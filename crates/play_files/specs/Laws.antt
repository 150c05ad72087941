-- Laws of all lists of moves and texts, for a graph of so many vertices. Calls of this crate carry them.
use Rattle.std.specs.Prelude.{◌≡◌, ◌<◌, ◌^◌, ℕ, List, [], ◌++◌, ◌⊎◌, length}
use Rattle.pebble_rules.specs.declared.moves.Move.{Move}
use Rattle.line_texts.specs.BadLines.{IsBadLine}
use Rattle.play_files.specs.PlayText.{play_text}
use Rattle.play_files.specs.PlayTexts.{NameVertices, ArePlayLines, ReadsAs}

-- the text of moves reads as these moves
abbrev pub ReadsBack : Type 0
ReadsBack = (n : ℕ) (moves : List Move) → n < 2 ^ 16 → NameVertices n moves → ReadsAs n (play_text moves) moves

-- a text reads as one list of moves at most
abbrev pub OneReading : Type 0
OneReading = (n : ℕ) (text : List ℕ) (some others : List Move) → n < 2 ^ 16 → ReadsAs n text some → ReadsAs n text others → some ≡ others

-- no text of moves is a prefix of another's
abbrev pub NoPrefix : Type 0
NoPrefix = (n : ℕ) (some others : List Move) (more : List ℕ) → n < 2 ^ 16 → NameVertices n some → NameVertices n others → play_text others ≡ play_text some ++ more → (some ≡ others) × (more ≡ [])

-- a text has one bad line at most
abbrev pub OneBadLine : Type 0
OneBadLine = (n : ℕ) (text : List ℕ) (k m : ℕ) → IsBadLine (ArePlayLines n) text k → IsBadLine (ArePlayLines n) text m → k ≡ m

-- a text that reads as moves has no bad line
abbrev pub NeverBoth : Type 0
NeverBoth = (n : ℕ) (text : List ℕ) (moves : List Move) (m : ℕ) → ReadsAs n text moves → IsBadLine (ArePlayLines n) text m → ⊥

-- and each text reads as moves or has a bad line
abbrev pub AlwaysOne : Type 0
AlwaysOne = (n : ℕ) (text : List ℕ) → n < 2 ^ 16 → ((moves : List Move) × ReadsAs n text moves) ⊎ ((m : ℕ) × IsBadLine (ArePlayLines n) text m)

-- a text has more bytes than the moves that it reads as
abbrev pub PlaysAreShort : Type 0
PlaysAreShort = (n : ℕ) (text : List ℕ) (moves : List Move) → ReadsAs n text moves → length moves < length text
