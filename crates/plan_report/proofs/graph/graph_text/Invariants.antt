-- The text so far and the output elements that are left are the whole text.
use Rattle.std.proofs.Common.{◌≡◌, ◌++◌, map, drop}
use Rattle.line_texts.specs.Lines.{ended}
use Rattle.plan_report.specs.GraphText.{output_line, graph_text}
use Rattle.plan_report.proofs.graph.graph_text.Given as goal

abbrev pub invariant-loop-output : goal.invariant-loop-output
invariant-loop-output l = l.text.items ++ ended (map output_line (drop l.output-index l.graph.outputs)) ≡ graph_text l.graph
