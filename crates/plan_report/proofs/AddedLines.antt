-- A text to which lines are added one by one grows by all of these lines.
use Rattle.std.proofs.Common.{◌≡◌, ℕ, List, [], ◌∷◌, ◌++◌, sym, ap, ◌∙◌, append-nil, append_assoc}
use Rattle.line_texts.specs.Lines.{ended}
use Rattle.line_texts.proofs.Fronts.{ended-append}

-- the text is these lines
pub record Holds (text : List ℕ) (lines : List (List ℕ)) : Type 0 where
  pub same : text ≡ ended lines

-- a line more at the end, as it was given
pub line_added : (line : List ℕ) {given before after : List ℕ} {lines : List (List ℕ)} → Holds before lines → given ≡ line → after ≡ before ++ (given ++ 10 ∷ []) → Holds after (lines ++ line ∷ [])
line_added line {before = before} {lines = lines} holds same added = record {
  same = added ∙ ap (λ text. before ++ (text ++ 10 ∷ [])) same ∙ ap (λ text. text ++ (line ++ 10 ∷ [])) holds.same ∙ sym (ended-append lines (line ∷ []));
}

-- the text is another one and then these lines
pub record Grows (from text : List ℕ) (lines : List (List ℕ)) : Type 0 where
  pub same : text ≡ from ++ ended lines

-- no line more
pub not_grown : (from : List ℕ) → Grows from from []
not_grown from = record { same = sym (append-nil from) }

-- a line more at the end, as it was given
pub line_grown : (line : List ℕ) {from given before after : List ℕ} {lines : List (List ℕ)} → Grows from before lines → given ≡ line → after ≡ before ++ (given ++ 10 ∷ []) → Grows from after (lines ++ line ∷ [])
line_grown line {from = from} {before = before} {lines = lines} grows same added = record {
  same = added ∙ ap (λ text. before ++ (text ++ 10 ∷ [])) same ∙ ap (λ text. text ++ (line ++ 10 ∷ [])) grows.same
      ∙ append_assoc from (ended lines) (line ++ 10 ∷ []) ∙ ap (λ more. from ++ more) (sym (ended-append lines (line ∷ [])));
}

-- more lines at the end
pub lines_added : (more : List (List ℕ)) {before after : List ℕ} {lines : List (List ℕ)} → Holds before lines → after ≡ before ++ ended more → Holds after (lines ++ more)
lines_added more {lines = lines} holds added = record { same = added ∙ ap (λ text. text ++ ended more) holds.same ∙ sym (ended-append lines more) }
