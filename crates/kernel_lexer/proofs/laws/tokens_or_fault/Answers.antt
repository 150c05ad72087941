-- The laws are proved in proofs/Fronts.antt and proofs/Always.antt.
use Rattle.kernel_lexer.proofs.Always.{always_one}
use Rattle.kernel_lexer.proofs.Fronts.{never_both, one_first_fault, one_token_list}
use Rattle.kernel_lexer.proofs.laws.tokens_or_fault.Goals as goal

pub returns-clause-one_list : goal.returns-clause-one_list
returns-clause-one_list c = one_token_list

pub returns-clause-one_fault : goal.returns-clause-one_fault
returns-clause-one_fault c = one_first_fault

pub returns-clause-never_both : goal.returns-clause-never_both
returns-clause-never_both c = never_both

pub returns-clause-always_one : goal.returns-clause-always_one
returns-clause-always_one c = always_one
