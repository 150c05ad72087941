-- The lines, added one by one, are those on the plan.
use Rattle.std.proofs.Common.{refl, ◌∙◌}
use Rattle.std.specs.Prelude.{codes}
use Rattle.std.specs.Fmt.{decimal}
use Rattle.plan_report.specs.ReportText.{verdict_word}
use Rattle.plan_report.proofs.AddedLines.{not_grown}
use Rattle.plan_report.proofs.Remarks.{more}
use Rattle.plan_report.proofs.facts.add_plan.Goals as goal

pub returns : goal.returns
returns c =
    let f = c.args.facts.now in
    let none = not_grown c.args.text.now.items in
    let first = more (codes "first") (decimal f.first) none refl c.in_ok-add_number.ensures in
    let cost = more (codes "cost") (decimal f.cost) first refl c.in_ok-add_number-2.ensures in
    let bound = more (codes "bound") (decimal f.bound) cost refl c.in_ok-add_number-3.ensures in
    let expanded = more (codes "expanded") (decimal f.expanded) bound refl c.in_ok-add_number-4.ensures in
    let limit = more c.args.name.now (decimal c.args.limit) expanded refl c.in_ok-add_number-5.ensures in
    let verdict = more (codes "verdict") (verdict_word f.optimal) limit (c.as_bytes.ensures.value ∙ c.verdict_word.ensures) c.in_ok-add_remark.ensures in
    verdict.same
