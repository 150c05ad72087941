-- What the laws of grammars say of the grammar of kernels.
use Rattle.kernel_syntax.specs.Grammar.{Whole}
use Rattle.kernel_syntax.specs.Parsing.{whole}
use Rattle.token_grammar.proofs.Texts.{only_reading, more_levels, one_fault, never_both, word_or_fault}
use Rattle.kernel_syntax.proofs.KernelSteps.{whole_step}
use Rattle.kernel_syntax.proofs.laws.one_answer.Goals as goal

pub returns-clause-reading : goal.returns-clause-reading
returns-clause-reading c = only_reading whole Whole whole_step

pub returns-clause-levels : goal.returns-clause-levels
returns-clause-levels c = more_levels whole Whole whole_step

pub returns-clause-fault : goal.returns-clause-fault
returns-clause-fault c = one_fault Whole

pub returns-clause-apart : goal.returns-clause-apart
returns-clause-apart c = never_both Whole

pub returns-clause-always : goal.returns-clause-always
returns-clause-always c = word_or_fault whole Whole whole_step
