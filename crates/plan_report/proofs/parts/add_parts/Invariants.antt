-- The text so far and the parts that are left are the whole text.
use Rattle.std.proofs.Common.{◌≡◌, ◌++◌, drop}
use Rattle.line_texts.specs.Lines.{ended}
use Rattle.plan_report.specs.PartsText.{part_lines}
use Rattle.plan_report.proofs.parts.add_parts.Given as goal

abbrev pub invariant-loop-number : goal.invariant-loop-number
invariant-loop-number l = l.text.items ++ ended (part_lines l.number (drop l.number l.parts)) ≡ l.initial.text.items ++ ended (part_lines 0 l.parts)
