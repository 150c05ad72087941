-- The outputs read so far, before the rest, are what all outputs come to.
use Rattle.std.proofs.Common.{◌≡◌, ◌+◌, drop}
use Rattle.scratch_machine.specs.Machines.{outputs_read}
use Rattle.scratch_machine.specs.Exec.{machine_of, with_front}
use Rattle.scratch_machine.proofs.machine.Machine.outputs.Given as goal

abbrev pub invariant-loop-k : goal.invariant-loop-k
invariant-loop-k l = with_front l.values.items (outputs_read (l.first + l.k) (machine_of l.self).words (drop l.k l.outputs)) ≡ outputs_read l.first (machine_of l.self).words l.outputs
