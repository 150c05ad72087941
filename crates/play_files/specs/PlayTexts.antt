-- Which texts read as which lists of moves of a graph with n vertices, and the bad line of any other text.
use Rattle.std.specs.Prelude.{◌≡◌, ◌<◌, ℕ, List}
use Rattle.std.specs.List.{All}
use Rattle.pebble_rules.specs.declared.moves.Move.{Move}
use Rattle.pebble_rules.specs.Refusals.{vertex_of}
use Rattle.line_texts.specs.Lines.{HasLines}
use Rattle.line_texts.specs.BadLines.{Grammar}
use Rattle.play_files.specs.PlayText.{lines_of_play}

-- the moves name vertices
abbrev pub NameVertices : ℕ → List Move → Type 0
NameVertices n moves = All (λ m. vertex_of m < n) moves

-- the grammar of play texts
abbrev pub ArePlayLines : ℕ → Grammar
ArePlayLines n lines = (moves : List Move) × NameVertices n moves × (lines ≡ lines_of_play moves)

-- the text reads as the moves
abbrev pub ReadsAs : ℕ → List ℕ → List Move → Type 0
ReadsAs n text moves = NameVertices n moves × HasLines text (lines_of_play moves)
