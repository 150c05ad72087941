-- After some instructions: no more transfers than instructions, and going on from there comes to what the whole run comes to.
use Rattle.std.proofs.Common.{◌≡◌, ◌+◌, ◌≤◌, drop}
use Rattle.scratch_machine.specs.Machines.{begun, run_from}
use Rattle.scratch_machine.specs.Exec.{machine_of}
use Rattle.scratch_machine.proofs.machine.exec.Given as goal

abbrev pub invariant-loop-at : goal.invariant-loop-at
invariant-loop-at l = record {
  counted : l.machine.loads + l.machine.stores ≤ l.at;
  goes_on : run_from l.at (machine_of l.machine) (drop l.at l.instructions) ≡ run_from 0 (begun l.values) l.instructions;
}
