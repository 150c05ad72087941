-- The lines, added one by one, are the text.
use Rattle.std.proofs.Common.{[], ◌∷◌, length, codes, refl}
use Rattle.std.specs.Fmt.{decimal}
use Rattle.line_texts.specs.Words.{line}
use Rattle.plan_report.specs.PartsText.{part_lines}
use Rattle.plan_report.proofs.AddedLines.{Holds, line_added, lines_added}
use Rattle.plan_report.proofs.parts.parts_text.Goals as goal

pub returns : goal.returns
returns c =
    let parts = c.args.parts.now in
    let none : Holds c.new-text.result.items [] = record { same = c.new-text.ensures.items } in
    let count = line_added (line (codes "parts") (decimal (length parts) ∷ [])) none refl c.in_ok-add_fact.ensures in
    let all = lines_added (part_lines 0 parts) count c.in_ok-add_parts.ensures in
    let sum = line_added (line (codes "sum") (decimal c.args.sum ∷ [])) all refl c.in_ok-add_fact-2.ensures in
    sum.same
