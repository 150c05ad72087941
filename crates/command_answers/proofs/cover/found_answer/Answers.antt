-- The text is the report of what was found, and the code of its plan.
use Rattle.std.proofs.Common.{rules, ◌≡◌, ◌++◌, ◌∙◌}
use Rattle.plan_report.specs.ReportText.{report_text}
use Rattle.scratch_code.specs.CodeText.{code_text}
use Rattle.slot_alloc.specs.PlanCode.{plan_code}
use Rattle.command_answers.proofs.cover.found_answer.Goals as goal

pub returns-clause-text : goal.returns-clause-text
returns-clause-text c =
    let title : c.title.result.now ≡ c.args.game.now.graph.title = search rules in
    c.in_ok-text.ensures ∙ (λ i. report_text (title i) (c.facts_of_found-facts.ensures.value i) ++ code_text (plan_code c.args.found.now.plan))
