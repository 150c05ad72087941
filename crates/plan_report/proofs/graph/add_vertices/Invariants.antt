-- The text so far and the vertices that are left are the whole text.
use Rattle.std.proofs.Common.{◌≡◌, ◌++◌, drop}
use Rattle.line_texts.specs.Lines.{ended}
use Rattle.plan_report.specs.GraphText.{vertex_lines}
use Rattle.plan_report.proofs.graph.add_vertices.Given as goal

abbrev pub invariant-loop-v : goal.invariant-loop-v
invariant-loop-v l = l.text.items ++ ended (vertex_lines l.names l.v (drop l.v l.node-items)) ≡ l.initial.text.items ++ ended (vertex_lines l.names 0 l.node-items)
