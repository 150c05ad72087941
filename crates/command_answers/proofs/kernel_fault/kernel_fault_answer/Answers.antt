-- The line is that of the fault.
use Rattle.std.proofs.Common.{◌≡◌, rules, refl}
use Rattle.command_answers.specs.Refusals.{kernel_fault_text}
use Rattle.command_answers.proofs.kernel_fault.kernel_fault_answer.Goals as goal

pub returns : goal.returns
returns c = λ text fault.
    let line : c.into_bytes.result.items ≡ kernel_fault_text c.args.code c.args.at = search rules in
    record { code = c.args.code; at = c.args.at; fault = fault; ends = refl; line = line; none = refl }
