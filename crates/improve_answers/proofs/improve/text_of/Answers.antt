-- The text is the report of what was found, and the code of its plan.
use Rattle.std.proofs.Common.{rules, ◌≡◌, ◌++◌, ◌∙◌}
use Rattle.plan_report.specs.ReportText.{effort_report_text}
use Rattle.scratch_code.specs.CodeText.{code_text}
use Rattle.improve_answers.proofs.improve.text_of.Goals as goal

pub returns-clause-text : goal.returns-clause-text
returns-clause-text c =
    let title : c.title.result.now ≡ c.args.game.now.graph.title = search rules in
    let front : c.in_ok-text.text.items ≡ effort_report_text c.title.result.now c.args.asked.effort c.facts_of-facts.result = c.in_ok-text.ensures in
    let code : c.deref.result.now ≡ code_text c.in_ok-code.code = c.deref.ensures.value ∙ c.in_ok-code_text.ensures.text in
    c.in_ok-extend_from_slice.ensures.items ∙ (λ i. front i ++ code i)
    ∙ (λ i. effort_report_text (title i) c.args.asked.effort (c.facts_of-facts.ensures.value i) ++ code_text (c.in_ok-code.ensures.value i))
