-- A text with tokens has no fault.
use Rattle.kernel_lexer.proofs.Fronts.{never_both}
use Rattle.kernel_lexer.proofs.lexer.tokens.Goals as goal

pub returns-clause-faultless : goal.returns-clause-faultless
returns-clause-faultless c = λ code at fault. never_both c.args.text.now c.in_ok-found.found.items code at c.in_ok-found.ensures.tokens fault
