-- What the functions of the reader answer.
use Rattle.std.specs.Prelude.{◌≡◌, ◌≢◌, ◌<◌, ℕ, Bool, true, false, List, [], ◌∷◌, ◌++◌, ◌⊎◌, Option, MatchOption, Result, Ok, Err, Vec, ⊤, codes}
use Rattle.pebble_rules.specs.declared.moves.Move.{Move}
use Rattle.pebble_rules.specs.Refusals.{vertex_of}
use Rattle.line_texts.specs.BadLines.{IsBadLine}
use Rattle.play_files.specs.declared.draft.Draft.{Draft}
use Rattle.play_files.specs.declared.reading.PlayEnd.{PlayEnd}
use Rattle.play_files.specs.declared.reading.PlayEnd.TheVariants.{BadLine, NoMemory}
use Rattle.play_files.specs.PlayText.{word_of, line_of_move}
use Rattle.play_files.specs.PlayTexts.{ArePlayLines, ReadsAs}

-- moves that are being read, and whether `end` was read
pub record State : Type 0 where
  pub moves : List Move
  pub done : Bool

-- no move was read, and not the end
abbrev pub none_read : State
none_read = record { moves = []; done = false }

-- what a draft says was read
abbrev pub state_of : Draft → State
state_of d = record { moves = d.moves.items; done = d.done }

-- the line says a move, which comes behind the others
abbrev pub AddsMove : ℕ → List Move → List ℕ → State → Type 0
AddsMove n moves line t = (m : Move) × (vertex_of m < n) × (line ≡ line_of_move m) × (t ≡ record { moves = moves ++ m ∷ []; done = false })

-- the line is the end
abbrev pub AddsEnd : List Move → List ℕ → State → Type 0
AddsEnd moves line t = (line ≡ codes "end") × (t ≡ record { moves = moves; done = true })

-- the line may come next, and leads to t
abbrev pub IsNextLine : ℕ → State → List ℕ → State → Type 0
IsNextLine n s line t = (s.done ≡ false) × (AddsMove n s.moves line t ⊎ AddsEnd s.moves line t)

-- the moves are whole
abbrev pub Ends : State → Type 0
Ends s = s.done ≡ true

-- the move of a vertex that a word names
abbrev pub IsMoveOf : List ℕ → ℕ → Option Move → Type 0
IsMoveOf word v r = MatchOption r ((m : Move) → vertex_of m ≡ v → word ≢ word_of m) (λ m. (word ≡ word_of m) × (vertex_of m ≡ v))

-- the move that a line says
abbrev pub IsMoveLine : ℕ → List ℕ → Option Move → Type 0
IsMoveLine n text r = MatchOption r ((m : Move) → vertex_of m < n → text ≢ line_of_move m) (λ m. (vertex_of m < n) × (text ≡ line_of_move m))

-- the moves that a text reads as, or its bad line; memory may always be wanting
abbrev pub IsReadAnswer : {Z : Type 0} → ℕ → Result (Vec Move Z) PlayEnd → List ℕ → Type 0
IsReadAnswer n (Ok moves) text = ReadsAs n text moves.items
IsReadAnswer n (Err (BadLine m)) text = IsBadLine (ArePlayLines n) text m
IsReadAnswer n (Err NoMemory) text = ⊤
