-- The text of the bounds of the parts of a graph: how many parts there are, a line for each of them, and the sum of the bounds (this project's
-- convention).
use Rattle.std.specs.Prelude.{ℕ, suc, List, [], ◌∷◌, ◌++◌, length, codes}
use Rattle.std.specs.Fmt.{decimal}
use Rattle.plan_report.specs.declared.parts.PartFacts.{PartFacts}
use Rattle.line_texts.specs.Lines.{ended}
use Rattle.line_texts.specs.Words.{line}

-- a part with its number, its number of vertices, the cost of its plan, and the bound that was shown
abbrev pub part_line : ℕ → PartFacts → List ℕ
part_line number part =
    line (codes "part")
    (decimal number ∷ codes "vertices" ∷ decimal part.vertices ∷ codes "cost" ∷ decimal part.cost ∷ codes "bound" ∷ decimal part.bound ∷ [])

-- the lines of parts, numbered from here on
abbrev pub part_lines : ℕ → List PartFacts → List (List ℕ)
part_lines number [] = []
part_lines number (part ∷ parts) = part_line number part ∷ part_lines (suc number) parts

-- the lines of parts, numbered from 0, between their count and a sum
abbrev pub parts_lines : List PartFacts → ℕ → List (List ℕ)
parts_lines parts sum = line (codes "parts") (decimal (length parts) ∷ []) ∷ (part_lines 0 parts ++ line (codes "sum") (decimal sum ∷ []) ∷ [])

-- the text of parts and a sum
abbrev pub parts_text : List PartFacts → ℕ → List ℕ
parts_text parts sum = ended (parts_lines parts sum)
