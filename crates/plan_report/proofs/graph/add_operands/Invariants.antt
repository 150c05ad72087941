-- The text so far and the operands that are left are the whole text.
use Rattle.std.proofs.Common.{◌≡◌, ◌++◌, map, drop}
use Rattle.line_texts.specs.Words.{after_spaces}
use Rattle.plan_report.specs.GraphText.{operand_text}
use Rattle.plan_report.proofs.graph.add_operands.Given as goal

abbrev pub invariant-loop-arg : goal.invariant-loop-arg
invariant-loop-arg l = l.text.items ++ after_spaces (map operand_text (drop l.arg-index l.args)) ≡ l.initial.text.items ++ after_spaces (map operand_text l.args)
