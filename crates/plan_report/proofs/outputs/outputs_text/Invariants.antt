-- The text so far and the elements that are left are the whole text.
use Rattle.std.proofs.Common.{◌≡◌, ◌++◌, ℕ, ℤ, List, length, map, drop}
use Rattle.std.specs.List.{zip}
use Rattle.line_texts.specs.Lines.{ended}
use Rattle.plan_report.specs.OutputsText.{value_line, outputs_text}
use Rattle.plan_report.proofs.outputs.outputs_text.Given as goal

abbrev pub invariant-loop-name : goal.invariant-loop-name
invariant-loop-name l = l.text.items ++ ended (map (λ (p : List ℕ × ℤ). value_line p.0 p.1) (drop (length l.yielded) (zip l.names l.values))) ≡ outputs_text l.names l.values
