-- The text so far and the lines that are left are the whole text.
use Rattle.std.proofs.Common.{◌≡◌, ◌++◌, map, drop}
use Rattle.line_texts.specs.Lines.{ended}
use Rattle.scratch_code.specs.CodeText.{line_of_input}
use Rattle.scratch_code.proofs.write.add_inputs.Given as goal

abbrev pub invariant-loop-label : goal.invariant-loop-label
invariant-loop-label l = l.text.items ++ ended (map line_of_input (drop l.label-index l.labels)) ≡ l.initial.text.items ++ ended (map line_of_input l.labels)
