-- What the laws of grammars say of the tree, and of the fault.
use Rattle.kernel_syntax.specs.Grammar.{Whole}
use Rattle.kernel_syntax.specs.Parsing.{whole}
use Rattle.kernel_syntax.specs.Reading.{tokens_of}
use Rattle.token_grammar.proofs.Texts.{reads, only_reading, exact_fault}
use Rattle.kernel_syntax.proofs.KernelSteps.{whole_step}
use Rattle.kernel_syntax.proofs.syntax.tree_of.Goals as goal

pub returns-in-Ok-clause-read : goal.returns-in-Ok-clause-read
returns-in-Ok-clause-read c = reads whole Whole whole_step 32 c.args.tokens.now c.in-Ok.kernel _ c.in-Ok.ensures

pub returns-in-Ok-clause-only : goal.returns-in-Ok-clause-only
returns-in-Ok-clause-only c = λ levels other w. only_reading whole Whole whole_step levels 32 c.args.tokens.now other c.in-Ok.kernel w (reads whole Whole whole_step 32 c.args.tokens.now c.in-Ok.kernel _ c.in-Ok.ensures)

pub returns-in-Err-Fault-clause-fault : goal.returns-in-Err-Fault-clause-fault
returns-in-Err-Fault-clause-fault c =
    let e = rw c.in-Err-Fault.field-0-is at c.in-Err-Fault.ensures in
    (tokens_of c.kernel.new.self, exact_fault whole Whole whole_step 32 c.in-Err-Fault.fault c.args.tokens.now (tokens_of c.kernel.new.self) e, c.place.ensures)
