-- The values of output elements, a line for each (this project's convention).
use Rattle.std.specs.Prelude.{ℕ, ℤ, List, [], ◌∷◌, map, codes}
use Rattle.std.specs.List.{zip}
use Rattle.std.specs.Fmt.{signed_decimal}
use Rattle.line_texts.specs.Lines.{ended}
use Rattle.line_texts.specs.Words.{line}

-- an element's label, an equals sign, and its value
abbrev pub value_line : List ℕ → ℤ → List ℕ
value_line label value = line label (codes "=" ∷ signed_decimal value ∷ [])

-- the line of each label and the value at its place
abbrev pub value_lines : List (List ℕ) → List ℤ → List (List ℕ)
value_lines labels values = map (λ (p : List ℕ × ℤ). value_line p.0 p.1) (zip labels values)

-- the text of labels and values
abbrev pub outputs_text : List (List ℕ) → List ℤ → List ℕ
outputs_text labels values = ended (value_lines labels values)
