-- The fault that is printed is that of the text.
use Rattle.std.proofs.Common.{subst}
use Rattle.command_answers.specs.Accepted.{EndMeans}
use Rattle.command_answers.proofs.kernel_fault.accepted_kernel.Goals as goal

pub returns-in_ok-kernel_fault_answer-in-Err-Fault-clause-refused : goal.returns-in_ok-kernel_fault_answer-in-Err-Fault-clause-refused
returns-in_ok-kernel_fault_answer-in-Err-Fault-clause-refused c =
    let fault = subst (EndMeans c.args.text.now) c.in-Err-Fault.field-0-is c.in-Err-Fault.ensures.fault in
    c.in_ok-kernel_fault_answer-in-Err-Fault.ensures c.args.text.now (rw c.in-Err-Fault.code-is (rw c.in-Err-Fault.at-is fault))
