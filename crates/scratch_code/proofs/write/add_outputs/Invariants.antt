-- The text so far and the lines that are left are the whole text.
use Rattle.std.proofs.Common.{◌≡◌, ◌++◌, map, drop}
use Rattle.line_texts.specs.Lines.{ended}
use Rattle.scratch_code.specs.CodeText.{line_of_output}
use Rattle.scratch_code.proofs.write.add_outputs.Given as goal

abbrev pub invariant-loop-output : goal.invariant-loop-output
invariant-loop-output l = l.text.items ++ ended (map line_of_output (drop l.output-index l.outputs)) ≡ l.initial.text.items ++ ended (map line_of_output l.outputs)
