-- The three groups of lines are those of a report.
use Rattle.std.proofs.Common.{[], ◌∙◌, ap, append_assoc}
use Rattle.line_texts.specs.Lines.{ended}
use Rattle.plan_report.specs.ReportText.{game_lines, weight_lines, plan_lines_within}
use Rattle.plan_report.proofs.AddedLines.{Holds, lines_added}
use Rattle.plan_report.proofs.facts.report_within.Goals as goal

pub returns : goal.returns
returns c =
    let f = c.args.facts.now in
    let none : Holds c.new-text.result.items [] = record { same = c.new-text.ensures.items } in
    let game = lines_added (game_lines c.args.title.now f) none c.in_ok-add_game.ensures in
    let weights = lines_added (weight_lines f.weights) game c.in_ok-add_weights.ensures in
    let plan = lines_added (plan_lines_within c.args.name.now c.args.limit f) weights c.in_ok-add_plan.ensures in
    plan.same ∙ ap ended (append_assoc (game_lines c.args.title.now f) (weight_lines f.weights) (plan_lines_within c.args.name.now c.args.limit f))
