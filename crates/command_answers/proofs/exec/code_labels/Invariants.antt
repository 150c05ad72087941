-- The labels of as many outputs as the index says are copied.
use Rattle.std.proofs.Common.{◌≡◌, take, map}
use Rattle.scratch_machine.specs.declared.code.OutWord.{OutWord}
use Rattle.command_answers.proofs.exec.code_labels.Given as goal

abbrev pub invariant-loop-output : goal.invariant-loop-output
invariant-loop-output l = l.labels.items ≡ map (λ (o : OutWord). o.label) (take l.output-index l.outputs)
