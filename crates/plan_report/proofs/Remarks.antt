-- The lines of a report, added one by one.
use Rattle.std.proofs.Common.{◌≡◌, ℕ, List, [], ◌∷◌, ◌++◌, ap}
use Rattle.plan_report.specs.ReportText.{remark}
use Rattle.plan_report.proofs.AddedLines.{Grows, line_grown}

-- one more line, of a value that was given
pub more : (name value : List ℕ) {from given before after : List ℕ} {lines : List (List ℕ)} → Grows from before lines → given ≡ value
    → after ≡ before ++ (remark name given ++ 10 ∷ []) → Grows from after (lines ++ remark name value ∷ [])
more name value grows same added = line_grown (remark name value) grows (ap (remark name) same) added
