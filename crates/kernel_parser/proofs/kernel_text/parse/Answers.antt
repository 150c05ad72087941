-- A text that stands for a kernel has no fault.
use Rattle.kernel_parser.proofs.OneText.{kernel_without_fault}
use Rattle.kernel_parser.proofs.kernel_text.parse.Goals as goal

pub returns-clause-faultless : goal.returns-clause-faultless
returns-clause-faultless c = λ code at fault. kernel_without_fault c.args.text.now c.in_ok-kernel.kernel code at c.in_ok-kernel.ensures.reads fault
