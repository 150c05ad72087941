-- The text of a trial: five lines that say what was generated and what was shown of its plan (this project's convention).
use Rattle.std.specs.Prelude.{ℕ, Bool, List, [], ◌∷◌, codes}
use Rattle.std.specs.Fmt.{decimal}
use Rattle.plan_report.specs.declared.facts.Facts.{Facts}
use Rattle.line_texts.specs.Lines.{ended}
use Rattle.line_texts.specs.Words.{line}
use Rattle.plan_report.specs.ReportText.{verdict_word}

-- the name of a fact, and its number
abbrev pub fact : List ℕ → ℕ → List ℕ
fact name n = line name (decimal n ∷ [])

-- the cost of the plan, and the bound that was shown
abbrev pub cost_line : ℕ → ℕ → List ℕ
cost_line cost bound = line (codes "cost") (decimal cost ∷ codes "bound" ∷ decimal bound ∷ [])

-- how many positions were expanded, and the verdict
abbrev pub verdict_line : ℕ → Bool → List ℕ
verdict_line expanded optimal = line (codes "expanded") (decimal expanded ∷ verdict_word optimal ∷ [])

-- the lines of a trial with n statements
abbrev pub trial_lines : ℕ → Facts → List (List ℕ)
trial_lines n f =
    fact (codes "trial") n ∷ fact (codes "vertices") f.vertices ∷ fact (codes "first") f.first ∷ cost_line f.cost f.bound ∷ verdict_line f.expanded f.optimal ∷ []

-- the text of a trial
abbrev pub trial_text : ℕ → Facts → List ℕ
trial_text n f = ended (trial_lines n f)
