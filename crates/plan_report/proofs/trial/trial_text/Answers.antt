-- The lines, added one by one, are the text.
use Rattle.std.proofs.Common.{[], codes, refl, ap}
use Rattle.plan_report.specs.TrialText.{cost_line, fact, verdict_line}
use Rattle.plan_report.proofs.AddedLines.{Holds, line_added}
use Rattle.plan_report.proofs.trial.trial_text.Goals as goal

pub returns : goal.returns
returns c =
    let f = c.args.facts.now in
    let none : Holds c.new-text.result.items [] = record { same = c.new-text.ensures.items } in
    let trial = line_added (fact (codes "trial") c.args.n) none refl c.in_ok-add_fact.ensures in
    let vertices = line_added (fact (codes "vertices") f.vertices) trial (ap (fact (codes "vertices")) c.from.ensures) c.in_ok-add_fact-2.ensures in
    let first = line_added (fact (codes "first") f.first) vertices refl c.in_ok-add_fact-3.ensures in
    let cost = line_added (cost_line f.cost f.bound) first refl c.in_ok-add_cost.ensures in
    let verdict = line_added (verdict_line f.expanded f.optimal) cost refl c.in_ok-add_verdict.ensures in
    verdict.same
