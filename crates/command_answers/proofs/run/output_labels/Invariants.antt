-- The labels of as many outputs as the index says are copied.
use Rattle.std.proofs.Common.{◌≡◌, take, map}
use Rattle.comp_graph.specs.declared.node.Output.{Output}
use Rattle.command_answers.proofs.run.output_labels.Given as goal

abbrev pub invariant-loop-output : goal.invariant-loop-output
invariant-loop-output l = l.labels.items ≡ map (λ (o : Output). o.label) (take l.output-index l.graph.outputs)
