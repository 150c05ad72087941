-- The report of a plan: eleven lines that each begin with a semicolon, and two more where a load or a store does not cost 1 (this
-- project's convention). The tenth is the limit of the search: a budget of positions, or an effort.
use Rattle.std.specs.Prelude.{ℕ, Bool, true, false, ◌==◌, ◌&&◌, if◌then◌else◌, List, [], ◌∷◌, ◌++◌, codes}
use Rattle.std.specs.Fmt.{decimal}
use Rattle.comp_graph.specs.declared.costs.Weights.{Weights}
use Rattle.plan_report.specs.declared.facts.Facts.{Facts}
use Rattle.line_texts.specs.Lines.{ended}
use Rattle.line_texts.specs.Words.{line}

-- a semicolon, the name of a fact, and its value
abbrev pub remark : List ℕ → List ℕ → List ℕ
remark name value = line (codes ";") (name ∷ value ∷ [])

-- the word of a verdict: whether the plan was shown to be optimal
abbrev pub verdict_word : Bool → List ℕ
verdict_word true = codes "Optimal"
verdict_word false = codes "Open"

-- the lines on the game: the kernel, its graph and the slots
abbrev pub game_lines : List ℕ → Facts → List (List ℕ)
game_lines title f =
    remark (codes "kernel") title
    ∷ remark (codes "vertices") (decimal f.vertices)
    ∷ remark (codes "inputs") (decimal f.inputs)
    ∷ remark (codes "degree") (decimal f.degree)
    ∷ remark (codes "slots") (decimal f.slots)
    ∷ []

-- the lines on what a load and a store cost, where one of them does not cost 1
abbrev pub weight_lines : Weights → List (List ℕ)
weight_lines w =
    if (w.load == 1) && (w.store == 1) then []
    else (remark (codes "load") (decimal w.load) ∷ remark (codes "store") (decimal w.store) ∷ [])

-- the lines on the plan: costs, the bound, the search with the limit that it was given by this name, and the verdict
abbrev pub plan_lines_within : List ℕ → ℕ → Facts → List (List ℕ)
plan_lines_within name limit f =
    remark (codes "first") (decimal f.first)
    ∷ remark (codes "cost") (decimal f.cost)
    ∷ remark (codes "bound") (decimal f.bound)
    ∷ remark (codes "expanded") (decimal f.expanded)
    ∷ remark name (decimal limit)
    ∷ remark (codes "verdict") (verdict_word f.optimal)
    ∷ []

-- the same with the budget
abbrev pub plan_lines : Facts → List (List ℕ)
plan_lines f = plan_lines_within (codes "budget") f.budget f

-- the lines of a report
abbrev pub report_lines : List ℕ → Facts → List (List ℕ)
report_lines title f = game_lines title f ++ (weight_lines f.weights ++ plan_lines f)

-- the text of a report
abbrev pub report_text : List ℕ → Facts → List ℕ
report_text title f = ended (report_lines title f)

-- the text of the report of a plan that was improved: with the effort in place of the budget
abbrev pub effort_report_text : List ℕ → ℕ → Facts → List ℕ
effort_report_text title effort f = ended (game_lines title f ++ (weight_lines f.weights ++ plan_lines_within (codes "effort") effort f))
